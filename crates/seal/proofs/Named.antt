-- What a global expression names: the types of the items that are looked up.
use Rattle.std.proofs.Common.{◌≡◌, ℕ, zero, suc, List, [], ◌∷◌, ◌++◌, map, Some, None, Option, MatchOption, sym, refl, ap, ◌∙◌, append-nil}
use Rattle.std.specs.List.{slice_get, flat_map}
use Rattle.std.specs.Option.{option_map, option_or, option_to_list}
use Rattle.std.proofs.lemmas.List.{map-append}
use Rattle.ir.specs.declared.handle.Table.TheVariants as table
use Rattle.rules.specs.declared.faults.Rule.TheVariants as rule
use Rattle.rules.specs.declared.faults.Fault.{Fault}
use Rattle.rules.specs.Module.{Item, Module}
use Rattle.rules.specs.Fault.{Test, first, earlier}
use Rattle.rules.specs.Items.{own, type_of, at}
use Rattle.rules.specs.Once.{inits, met_after}
use Rattle.rules.proofs.Firsts.{first_append, passed, stopped}
use Rattle.sealing.specs.Seal.{waited_tests}
use Rattle.sealing.specs.Once.{pending_once, sizes_once}

-- what is found of the items of a table, whichever way the table is written, as a list
module _ {A B : Type 0} (shown : A → B) where
  found_one : (xs : List B) (n : ℕ) (o : Option A) → MatchOption o (slice_get xs n ≡ None) (λ i. slice_get xs n ≡ Some (shown i)) → option_to_list (option_map shown o) ≡ option_to_list (slice_get xs n)
  found_one xs n None h = ap option_to_list (sym h)
  found_one xs n (Some i) h = ap option_to_list (sym h)

  at_is : (xs : List B) (n : ℕ) → option_to_list (slice_get xs n) ≡ at xs n
  at_is [] n = refl
  at_is (x ∷ xs) zero = refl
  at_is (x ∷ xs) (suc n) = at_is xs n

  pub found_listed : (xs ys : List B) → xs ≡ ys → (n : ℕ) (ns : List ℕ) → n ∷ [] ≡ ns → (o : Option A) → MatchOption o (slice_get xs n ≡ None) (λ i. slice_get xs n ≡ Some (shown i)) → option_to_list (option_map shown o) ≡ flat_map (at ys) ns
  found_listed xs ys same n ns is o h =
      found_one xs n o h ∙ at_is xs n ∙ ap (λ zs. at zs n) same ∙ sym (append-nil (at ys n)) ∙ ap (flat_map (at ys)) is

-- the tests of the types that an expression names
module _ (t place : ℕ) where
  abbrev tests : List ℕ → List Test
  tests xs = map (earlier rule.SealedEarlier table.Types t place) xs

  mapped_first : (xs ys : List ℕ) → first (tests (xs ++ ys)) ≡ option_or (first (tests xs)) (first (tests ys))
  mapped_first xs ys = ap first (map-append (earlier rule.SealedEarlier table.Types t place) xs ys) ∙ first_append (tests xs) (tests ys)

  pub named_first : (m : Module) (i : Item) → first (waited_tests m t place i) ≡ option_or (first (tests (type_of i))) (option_or (first (tests (flat_map type_of (flat_map (at m.constants) (own table.Constants i))))) (first (tests (flat_map type_of (flat_map (at m.overrides) (own table.Overrides i))))))
  named_first m i =
      let constants = flat_map type_of (flat_map (at m.constants) (own table.Constants i)) in
      let overrides = flat_map type_of (flat_map (at m.overrides) (own table.Overrides i)) in
      mapped_first (type_of i) (constants ++ overrides) ∙ ap (option_or (first (tests (type_of i)))) (mapped_first constants overrides)

-- a type whose tests pass, and one with a fault
module _ (m : Module) (met n : ℕ) (i : Item) (left rest : List Item) (is : left ≡ i ∷ rest) where
  pub size_passed : first (pending_once m met n i) ≡ None → first (sizes_once m met n left) ≡ first (sizes_once m (met_after met (inits m i)) (suc n) rest)
  size_passed none = ap (λ l. first (sizes_once m met n l)) is ∙ passed (pending_once m met n i) (sizes_once m (met_after met (inits m i)) (suc n) rest) none

  pub size_stopped : (f : Fault) → first (pending_once m met n i) ≡ Some f → first (sizes_once m met n left) ≡ Some f
  size_stopped f some = ap (λ l. first (sizes_once m met n l)) is ∙ stopped (pending_once m met n i) (sizes_once m (met_after met (inits m i)) (suc n) rest) f some
