-- Looking at each global expression once changes no answer.
use Rattle.std.proofs.Common.{◌≡◌, ℕ, zero, suc, ◌<◌, List, [], ◌∷◌, take, drop, slice_get, flat_map, Some, sym, refl, ◌∙◌, inl, inr, arith}
use Rattle.std.specs.List.{AllByRecursion}
use Rattle.std.proofs.ByRecursion.{All-weaker}
use Rattle.std.proofs.lemmas.Bool.{cases_lt}
use Rattle.ir.specs.declared.handle.Table.TheVariants as table
use Rattle.rules.specs.declared.faults.Rule.TheVariants as rule
use Rattle.rules.specs.Module.{Item, Module}
use Rattle.rules.specs.Sizes.{sizes}
use Rattle.rules.specs.Fault.{Test, first, numbered, numbered_from}
use Rattle.rules.specs.Verdict.{AllHold}
use Rattle.rules.specs.Once.{inits, met_after}
use Rattle.rules.proofs.Passing.{hold_from_none, none_from_hold, hold_each, below_from_hold, hold_from_below}
use Rattle.rules.proofs.Firsts.{passed, then_same, after_same, each_same}
use Rattle.rules.proofs.Once.{get_take, get_from_take}
use Rattle.walk.proofs.Places.{all_at}
use Rattle.sealing.specs.Seal.{global_tests, types_named, waited_tests, up_to_tests, pending_tests, inner_then_other_tests}
use Rattle.sealing.specs.Once.{up_to_once, pending_once, sizes_once, LookedAtOnce}

module _ {X : Type 0} where
  -- the first k of the items have tests that pass
  skip_each : (f : X → List Test) (k : ℕ) (xs : List X) → ((x : ℕ) (i : X) → slice_get xs x ≡ Some i → x < k → AllHold (f i)) → first (flat_map f xs) ≡ first (flat_map f (drop k xs))
  skip_each f zero xs h = refl
  skip_each f (suc k) [] h = refl
  skip_each f (suc k) (x ∷ xs) h =
      passed (f x) (flat_map f xs) (none_from_hold (f x) (h 0 x refl (omega arith)))
      ∙ skip_each f k xs (λ y i s l. h (suc y) i s (omega arith))

module _ (m : Module) where
  -- the first expressions, as many as are met, name types before t
  abbrev Looked : ℕ → ℕ → Type 0
  Looked met t = (x : ℕ) (i : Item) → slice_get m.expressions x ≡ Some i → x < met → AllByRecursion (λ u. u < t) (types_named m i)

  looked_after : (t met : ℕ) (es : List ℕ) → Looked met t → AllByRecursion (λ e. Looked (suc e) t) es → Looked (met_after met es) t
  looked_after t met [] known each x i s l = known x i s l
  looked_after t met (e ∷ es) known each x i s l =
      elim (cases_lt x (suc e)) [
        | inl b ↦ each.0 x i s b
        | inr b ↦ looked_after t met es known each.1 x i s (omega arith)
      ]

  up_to_looked : (t place e : ℕ) → AllHold (up_to_tests m t place e) → Looked (suc e) t
  up_to_looked t place e h x i s l =
      let front = take (suc e) m.expressions in
      let each = hold_each (waited_tests m t place) front h in
      below_from_hold rule.SealedEarlier table.Types t place (types_named m i)
      (all_at (λ j. AllHold (waited_tests m t place j)) front x i each (get_take m.expressions (suc e) x i s l))

  -- a type that passes has looked at the expressions up to its inits
  inits_looked : (met t : ℕ) (i : Item) → Looked met t → AllHold (pending_tests m t i) → Looked (met_after met (inits m i)) t
  inits_looked met t i known h =
      looked_after t met (inits m i) known
      (All-weaker (λ e. AllHold (up_to_tests m t i.place e)) (λ e. Looked (suc e) t) (up_to_looked t i.place) (inits m i)
      (hold_each (up_to_tests m t i.place) (inits m i) h))

  looked_next : (met t : ℕ) → Looked met t → Looked met (suc t)
  looked_next met t known x i s l = All-weaker (λ u. u < t) (λ u. u < suc t) (λ u b. omega arith) (types_named m i) (known x i s l)

  up_to_same : (met t place : ℕ) → Looked met t → (e : ℕ) → first (up_to_tests m t place e) ≡ first (up_to_once m met t place e)
  up_to_same met t place known e =
      skip_each (waited_tests m t place) met (take (suc e) m.expressions)
      (λ x i s l. hold_from_below rule.SealedEarlier table.Types t place (types_named m i) (known x i (get_from_take (suc e) m.expressions x i s) l))

  pending_same : (met t : ℕ) (i : Item) → Looked met t → first (pending_tests m t i) ≡ first (pending_once m met t i)
  pending_same met t i known = each_same (up_to_tests m t i.place) (up_to_once m met t i.place) (inits m i) (up_to_same met t i.place known)

  types_same : (types : List Item) (met t : ℕ) → Looked met t → first (numbered_from (pending_tests m) t types) ≡ first (sizes_once m met t types)
  types_same [] met t known = refl
  types_same (i ∷ types) met t known =
      then_same (pending_tests m t i) (pending_once m met t i) _ _ (pending_same met t i known)
      (λ none. types_same types (met_after met (inits m i)) (suc t) (looked_next (met_after met (inits m i)) t (inits_looked met t i known (hold_from_none (pending_tests m t i) none))))

pub looked_at_once : LookedAtOnce
looked_at_once m =
    after_same (numbered (global_tests (sizes m)) m.expressions) _ _
    (then_same (sizes_once m 0 0 m.types) (numbered (pending_tests m) m.types) (inner_then_other_tests m) (inner_then_other_tests m) (sym (types_same m m.types 0 0 (λ x i s l. absurd (omega arith)))) (λ none. refl))
