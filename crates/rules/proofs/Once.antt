-- Testing each global expression once changes no answer.
use Rattle.std.proofs.Common.{◌≡◌, ℕ, zero, suc, ◌<◌, true, List, [], ◌∷◌, ◌++◌, map, take, slice_get, flat_map, Some, sym, refl, ap, ◌∙◌, inl, inr, append_assoc, arith}
use Rattle.std.specs.List.{AllByRecursion}
use Rattle.std.proofs.ByRecursion.{All-append, All-weaker}
use Rattle.std.proofs.lemmas.Bool.{cases_lt}
use Rattle.ir.specs.declared.handle.Table.TheVariants as table
use Rattle.ir.specs.Handle.{named}
use Rattle.rules.specs.declared.faults.Rule.TheVariants as rule
use Rattle.rules.specs.Module.{Item, Module}
use Rattle.rules.specs.Sizes.{sizes}
use Rattle.rules.specs.Items.{type_of, init_of, pending_of, at}
use Rattle.rules.specs.Fault.{first, inside, earlier, numbered, numbered_from}
use Rattle.rules.specs.Verdict.{AllHold}
use Rattle.rules.specs.Check.{const_expression_tests, returned, sized_tests, init_tests, size_tests, pending_tests, base_tests, type_tests, later_tests}
use Rattle.rules.specs.Once.{inits, met_after, unmet, init_once, size_once, pending_once, type_once, types_once, TestedOnce}
use Rattle.rules.proofs.Passing.{hold_from_none, hold_left, hold_right, hold_each, hold_numbered, below_from_hold, hold_from_below}
use Rattle.rules.proofs.Firsts.{then_same, after_same, each_same, skip_front}

module _ {X : Type 0} where
  pub get_take : (xs : List X) (n k : ℕ) (x : X) → slice_get xs k ≡ Some x → k < n → slice_get (take n xs) k ≡ Some x
  get_take [] n k x s l = absurd cc
  get_take (y ∷ xs) zero k x s l = absurd (omega arith)
  get_take (y ∷ xs) (suc n) zero x s l = s
  get_take (y ∷ xs) (suc n) (suc k) x s l = get_take xs n k x s (omega arith)

  pub get_from_take : (n : ℕ) (xs : List X) (k : ℕ) (x : X) → slice_get (take n xs) k ≡ Some x → slice_get xs k ≡ Some x
  get_from_take zero xs k x s = absurd cc
  get_from_take (suc n) [] k x s = s
  get_from_take (suc n) (y ∷ xs) zero x s = s
  get_from_take (suc n) (y ∷ xs) (suc k) x s = get_from_take n xs k x s

-- what holds of each item and of what it gives
pub all_flat : {X Y : Type 0} (P : Y → Type 0) (f : X → List Y) (xs : List X) → AllByRecursion (λ x. AllByRecursion P (f x)) xs → AllByRecursion P (flat_map f xs)
all_flat P f [] h = tt
all_flat P f (x ∷ xs) h = All-append P (f x) (flat_map f xs) h.0 (all_flat P f xs h.1)

-- the first expressions, as many as are met, pass their tests and return types before t
abbrev Tested : Module → ℕ → ℕ → Type 0
Tested m met t = (x : ℕ) (i : Item) → slice_get m.expressions x ≡ Some i → x < met → AllHold (const_expression_tests m x i) × AllByRecursion (λ u. u < t) (returned i)

-- what has been met: before, or up to one of the inits
tested_after : (m : Module) (t met : ℕ) (es : List ℕ) → Tested m met t → AllByRecursion (λ e. Tested m (suc e) t) es → Tested m (met_after met es) t
tested_after m t met [] known each x i s l = known x i s l
tested_after m t met (e ∷ es) known each x i s l =
    elim (cases_lt x (suc e)) [
      | inl b ↦ each.0 x i s b
      | inr b ↦ tested_after m t met es known each.1 x i s (omega arith)
    ]

module _ (m : Module) (t place : ℕ) where
  init_tested : (e : ℕ) → AllHold (init_tests m t place e) → Tested m (suc e) t
  init_tested e h x i s l =
      let front = take (suc e) m.expressions in
      let each = hold_numbered (sized_tests m t place) front h.1 x i (get_take m.expressions (suc e) x i s l) in
      (search hold_left, below_from_hold rule.Earlier table.Types t place (returned i) (search hold_right))

  size_tested : (v : Item) → AllHold (size_tests m t place v) → AllByRecursion (λ e. Tested m (suc e) t) (init_of v)
  size_tested v h =
      All-weaker (λ e. AllHold (init_tests m t place e)) (λ e. Tested m (suc e) t) init_tested (init_of v)
      (hold_each (init_tests m t place) (init_of v) (search hold_right))

  pending_tested : (o : ℕ) → AllHold (pending_tests m t place o) → AllByRecursion (λ v. AllByRecursion (λ e. Tested m (suc e) t) (init_of v)) (at m.overrides o)
  pending_tested o h =
      All-weaker (λ v. AllHold (size_tests m t place v)) (λ v. AllByRecursion (λ e. Tested m (suc e) t) (init_of v)) size_tested (at m.overrides o)
      (hold_each (size_tests m t place) (at m.overrides o) h.1)

module _ (m : Module) where
  -- a type that passes has tested the expressions up to its inits
  inits_tested : (t : ℕ) (i : Item) → AllHold (type_tests m t i) → AllByRecursion (λ e. Tested m (suc e) t) (inits m i)
  inits_tested t i h =
      let P : ℕ → Type 0 = λ e. Tested m (suc e) t in
      all_flat P init_of (flat_map (at m.overrides) (pending_of i))
      (all_flat (λ v. AllByRecursion P (init_of v)) (at m.overrides) (pending_of i)
      (All-weaker (λ o. AllHold (pending_tests m t i.place o)) (λ o. AllByRecursion (λ v. AllByRecursion P (init_of v)) (at m.overrides o)) (pending_tested m t i.place) (pending_of i)
      (hold_each (pending_tests m t i.place) (pending_of i) (search hold_right))))

  tested_next : (t met : ℕ) → Tested m met t → Tested m met (suc t)
  tested_next t met known x i s l = let k = known x i s l in (k.0, All-weaker (λ u. u < t) (λ u. u < suc t) (λ u b. omega arith) (returned i) k.1)

  init_same : (met t place e : ℕ) → Tested m met t → first (init_tests m t place e) ≡ first (init_once m met t place e)
  init_same met t place e known =
      after_same (inside rule.Inside (sizes m) place (named table.Expressions e) ∷ []) (numbered (sized_tests m t place) (take (suc e) m.expressions)) (numbered_from (sized_tests m t place) met (unmet m met e))
      (skip_front (sized_tests m t place) met (take (suc e) m.expressions) (λ x i s l.
      let k = known x i (get_from_take (suc e) m.expressions x i s) l in
      All-append (λ q. q.passes ≡ true) (const_expression_tests m x i) (map (earlier rule.Earlier table.Types t place) (returned i)) k.0 (hold_from_below rule.Earlier table.Types t place (returned i) k.1)))

  size_same : (met t place : ℕ) → Tested m met t → (v : Item) → first (size_tests m t place v) ≡ first (size_once m met t place v)
  size_same met t place known v =
      after_same (map (earlier rule.Earlier table.Types t place) (type_of v)) (flat_map (init_tests m t place) (init_of v)) (flat_map (init_once m met t place) (init_of v))
      (each_same (init_tests m t place) (init_once m met t place) (init_of v) (λ e. init_same met t place e known))

  pending_same : (met t place : ℕ) → Tested m met t → (o : ℕ) → first (pending_tests m t place o) ≡ first (pending_once m met t place o)
  pending_same met t place known o =
      after_same (inside rule.Inside (sizes m) place (named table.Overrides o) ∷ []) (flat_map (size_tests m t place) (at m.overrides o)) (flat_map (size_once m met t place) (at m.overrides o))
      (each_same (size_tests m t place) (size_once m met t place) (at m.overrides o) (size_same met t place known))

  type_same : (met t : ℕ) (i : Item) → Tested m met t → first (type_tests m t i) ≡ first (type_once m met t i)
  type_same met t i known =
      after_same (base_tests t i) (flat_map (pending_tests m t i.place) (pending_of i)) (flat_map (pending_once m met t i.place) (pending_of i))
      (each_same (pending_tests m t i.place) (pending_once m met t i.place) (pending_of i) (pending_same met t i.place known))

  types_same : (types : List Item) (met t : ℕ) → Tested m met t → first (numbered_from (type_tests m) t types ++ numbered (const_expression_tests m) m.expressions) ≡ first (types_once m met t types)
  types_same [] met t known = skip_front (const_expression_tests m) met m.expressions (λ x i s l. (known x i s l).0)
  types_same (i ∷ types) met t known =
      ap first (append_assoc (type_tests m t i) (numbered_from (type_tests m) (suc t) types) (numbered (const_expression_tests m) m.expressions))
      ∙ then_same (type_tests m t i) (type_once m met t i) _ _ (type_same met t i known)
      (λ none. types_same types (met_after met (inits m i)) (suc t) (tested_next t (met_after met (inits m i)) (tested_after m t met (inits m i) known (inits_tested t i (hold_from_none (type_tests m t i) none)))))

pub tested_once : TestedOnce
tested_once m =
    let types = numbered (type_tests m) m.types in
    let globals = numbered (const_expression_tests m) m.expressions in
    let none_met : Tested m 0 0 = λ x i s l. absurd (omega arith) in
    then_same (types_once m 0 0 m.types) (types ++ globals) (later_tests m) (later_tests m) (sym (types_same m m.types 0 0 none_met)) (λ none. refl)
    ∙ ap first (append_assoc types globals (later_tests m))
