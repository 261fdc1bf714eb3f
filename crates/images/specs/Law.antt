-- What an answer for an image means, in the words of put, of the check and of sealing.
use Rattle.std.specs.Prelude.{◌≡◌, ℕ, true, List, [], ◌∷◌, ◌++◌, is_ok, Some, None, Option, Err}
use Rattle.records.specs.Image.{split}
use Rattle.rules.specs.declared.faults.Rejection.{Rejection}
use Rattle.rules.specs.Module.{Record}
use Rattle.draft.specs.declared.refusal.Refusal.{Refusal}
use Rattle.draft.specs.State.{state}
use Rattle.arena.specs.Put.{put_def}
use Rattle.runs.specs.Runs.{put_kept, run}
use Rattle.images.specs.declared.question.Question.{Question}
use Rattle.images.specs.declared.refusal.ImageRefusal.{ImageRefusal}
use Rattle.images.specs.declared.refusal.ImageRefusal.TheVariants.{Put, Module}
use Rattle.images.specs.declared.verdict.Verdict.{Verdict}
use Rattle.images.specs.Answer.{asked, numbers}

-- put accepts each of these records, one after the other, on a draft that has kept m
abbrev pub AllAccepted : ℕ → ℕ → List Record → List Record → Type 0
AllAccepted room places m [] = Unit {0}
AllAccepted room places m (r ∷ rs) = (is_ok (put_def room places m r).0 ≡ true) × AllAccepted room places (put_kept room places m r) rs

-- put accepts the records before one of these, and refuses that one with e
pub record StopsAt (room places : ℕ) (m rs : List Record) (e : Refusal) : Type 0 where
  pub before : List Record
  pub refused : Record
  pub behind : List Record
  pub parts : rs ≡ before ++ (refused ∷ behind)
  pub accepted : AllAccepted room places m before
  pub refuses : (put_def room places (run room places m before) refused).0 ≡ Err e

-- put accepts all of these, and this is what the question answers for the module that they make
pub record Makes (q : Question) (room places : ℕ) (rs : List Record) (v : Option Rejection) : Type 0 where
  pub accepted : AllAccepted room places [] rs
  pub answer : asked q (state (run room places [] rs)) ≡ v

-- why an image is refused, if it is
abbrev pub Means : Question → ℕ → ℕ → List ℕ → Option ImageRefusal → Type 0
Means q room places image (Some (Put e)) = StopsAt room places [] (split image) e
Means q room places image (Some (Module e)) = Makes q room places (split image) (Some e)
Means q room places image None = Makes q room places (split image) None

-- these five numbers are those of such a reason
pub record Answers (q : Question) (room places : ℕ) (image : List ℕ) (v : Verdict) : Type 0 where
  pub why : Option ImageRefusal
  pub means : Means q room places image why
  pub told : v ≡ numbers why
