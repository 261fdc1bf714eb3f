-- What put of an owned draft answers, and what it keeps.
use Rattle.std.specs.Prelude.{◌≡◌, ◌+◌, List, length, Ok, Err, Result}
use Rattle.rules.specs.Module.{Record}
use Rattle.draft.specs.declared.refusal.Refusal.{Refusal}
use Rattle.draft.specs.Admitted.{image}
use Rattle.arena.specs.Answer.{Answer}
use Rattle.arena.specs.Put.{put_def}
use Rattle.owned.specs.declared.denial.Denial.{Denial}
use Rattle.owned.specs.declared.denial.Denial.TheVariants.{Refused, NoMemory}

-- put of a record, with as much memory as it needs: the answer, and the kept records after it
abbrev pub put_all : List Record → Record → Result Answer Refusal × List Record
put_all m r = put_def (length (image m) + length r) (length m + 1) m r

-- a put answers as defined and then keeps what is defined, or there is no memory and it keeps what it kept
abbrev pub PutOrNone : Result Answer Refusal × List Record → Result Answer Denial → List Record → List Record → Type 0
PutOrNone defined (Ok a) before after = (defined.0 ≡ Ok a) × (after ≡ defined.1)
PutOrNone defined (Err (Refused e)) before after = (defined.0 ≡ Err e) × (after ≡ defined.1)
PutOrNone defined (Err (NoMemory e)) before after = after ≡ before
