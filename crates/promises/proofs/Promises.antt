-- Sealing keeps what it promises.
use Rattle.draft.specs.State.{state}
use Rattle.promises.specs.Rows.{row}
use Rattle.promises.specs.Promises.{SealedPromises}
use Rattle.promises.proofs.Inside.{sealed_inside}
use Rattle.promises.proofs.Kept.{sealed_kept}
use Rattle.promises.proofs.KeptNumbers.{sealed_numbers}
use Rattle.promises.proofs.Rows.{sealed_row}

pub sealed_promises : SealedPromises
sealed_promises m a e = record { inside = sealed_inside m a e; kept = sealed_kept m a e; numbers = sealed_numbers m a e; row = row (state m).built; is_row = sealed_row m a e }
