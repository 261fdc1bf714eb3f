-- The laws together.
use Rattle.std.proofs.Common.{List}
use Rattle.rules.specs.Module.{Record}
use Rattle.draft.specs.State.{start}
use Rattle.draft.specs.Admitted.{Accepted}
use Rattle.laws.specs.Lawful.{Lawful}
use Rattle.laws.proofs.Decoding.{decoded}
use Rattle.laws.proofs.Grammatical.{grammatical}

pub lawful : (m : List Record) → Accepted start m → Lawful m
lawful m a = record { decoded = decoded m a; grammatical = grammatical m a }
