-- Which record may come next: refusals 1 to 5.
use Rattle.std.specs.Prelude.{◌≡◌, ℕ, true, cond, List, [], ◌∷◌, length, is_ok, Ok, Err, Option, Result}
use Rattle.std.specs.List.{flat_map}
use Rattle.ir.specs.declared.kinds.Kind.{Kind}
use Rattle.records.specs.declared.judge.Flaw.{Flaw}
use Rattle.records.specs.Record.{flaw_number, judged}
use Rattle.draft.specs.declared.refusal.Refusal.{Refusal}
use Rattle.draft.specs.declared.refusal.Refusal.TheVariants.{Flawed, Misplaced, TooDeep, Full}
use Rattle.draft.specs.declared.state.BodyKind.{BodyKind}
use Rattle.draft.specs.declared.state.Bracket.{Bracket}
use Rattle.draft.specs.declared.state.Pieces.{Pieces}
use Rattle.rules.specs.Module.{Record}
use Rattle.draft.specs.Manner.{manner_of, turn_of}
use Rattle.draft.specs.State.{State, step, innermost, fits_in, deepens}

-- the number of each refusal of put
abbrev pub refusal_number : Refusal → ℕ
refusal_number (Flawed f) = flaw_number f
refusal_number Misplaced = 4
refusal_number TooDeep = 5
refusal_number Full = 6

-- the kind of a record that may come next, or why none may: out of place comes before too deep
module _ (w : Option Pieces) (o : Option BodyKind) (inner : Option Bracket) (depth : ℕ) where
  abbrev pub placed_with : Kind → Result Kind Refusal
  placed_with k = cond (fits_in w o inner (manner_of k)) (cond (deepens (turn_of inner (manner_of k).motion) depth) (Err TooDeep) (Ok k)) (Err Misplaced)

  abbrev pub admitted_with : Result Kind Flaw → Result Kind Refusal
  admitted_with (Err e) = Err (Flawed e)
  admitted_with (Ok k) = placed_with k

abbrev pub admitted : State → Record → Result Kind Refusal
admitted s r = admitted_with s.waits s.opened (innermost s.brackets) (length s.brackets) (judged r)

-- each of these records may come after those before it
abbrev pub Accepted : State → List Record → Type 0
Accepted s [] = Unit {0}
Accepted s (r ∷ m) = (is_ok (admitted s r) ≡ true) × Accepted (step s r) m

-- the bytes of records, one after the other
abbrev pub image : List Record → List ℕ
image m = flat_map (λ r. r) m
