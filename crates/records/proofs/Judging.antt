-- What the kind byte and the length come to.
use Rattle.std.proofs.Common.{◌≡◌, ℕ, ◌-◌, ◌<◌, true, false, eqb, List, [], ◌∷◌, length, get_or, take, drop, Some, Ok, Err, arith}
use Rattle.ir.specs.declared.kinds.Kind.{Kind}
use Rattle.ir.specs.Layout.{layout, size_of}
use Rattle.ir.specs.Number.{kind_of}
use Rattle.records.specs.declared.judge.Flaw.TheVariants.{WrongLength}
use Rattle.records.specs.Record.{parts_of}
use Rattle.records.proofs.Slices.{rest_is}

pub parts_whole : (bytes : List ℕ) (k : Kind) → 0 < length bytes → Some k ≡ kind_of (get_or bytes 0 0) → true ≡ eqb (length (take (length bytes - 1) (drop 1 bytes))) (size_of (layout k)) → parts_of bytes ≡ Ok (k, take (length bytes - 1) (drop 1 bytes))
parts_whole [] k some is long = absurd (omega arith)
parts_whole (x ∷ xs) k some is long = rw (← is, rest_is 1 (x ∷ xs)) (rw (← (rw (rest_is 1 (x ∷ xs)) at long)))

pub parts_short : (bytes : List ℕ) (k : Kind) → 0 < length bytes → Some k ≡ kind_of (get_or bytes 0 0) → false ≡ eqb (length (take (length bytes - 1) (drop 1 bytes))) (size_of (layout k)) → parts_of bytes ≡ Err WrongLength
parts_short [] k some is long = absurd (omega arith)
parts_short (x ∷ xs) k some is long = rw (← is) (rw (← (rw (rest_is 1 (x ∷ xs)) at long)))
