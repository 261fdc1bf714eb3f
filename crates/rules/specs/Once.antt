-- The same answers with each global expression tested once: a type tests those that no earlier type has met.
use Rattle.std.specs.Prelude.{◌≡◌, ℕ, suc, max, List, [], ◌∷◌, ◌++◌, map, take, drop}
use Rattle.std.specs.List.{flat_map}
use Rattle.ir.specs.declared.handle.Table.TheVariants as table
use Rattle.ir.specs.Handle.{named}
use Rattle.rules.specs.declared.faults.Rule.TheVariants as rule
use Rattle.rules.specs.Module.{Item, Module}
use Rattle.rules.specs.Sizes.{sizes}
use Rattle.rules.specs.Items.{type_of, init_of, pending_of, at}
use Rattle.rules.specs.Fault.{Test, first, inside, earlier, numbered_from}
use Rattle.rules.specs.Check.{const_expression_tests, sized_tests, base_tests, later_tests, check}

-- the inits that the size of a type waits for
abbrev pub inits : Module → Item → List ℕ
inits m i = flat_map init_of (flat_map (at m.overrides) (pending_of i))

-- how many expressions have been met after a type with these inits
abbrev pub met_after : ℕ → List ℕ → ℕ
met_after met [] = met
met_after met (e ∷ es) = max (suc e) (met_after met es)

-- the expressions from the first that is not met up to e
abbrev pub unmet : Module → ℕ → ℕ → List Item
unmet m met e = drop met (take (suc e) m.expressions)

abbrev pub init_once : Module → ℕ → ℕ → ℕ → ℕ → List Test
init_once m met t place e =
    inside rule.Inside (sizes m) place (named table.Expressions e) ∷ numbered_from (sized_tests m t place) met (unmet m met e)

abbrev pub size_once : Module → ℕ → ℕ → ℕ → Item → List Test
size_once m met t place v = map (earlier rule.Earlier table.Types t place) (type_of v) ++ flat_map (init_once m met t place) (init_of v)

abbrev pub pending_once : Module → ℕ → ℕ → ℕ → ℕ → List Test
pending_once m met t place o =
    inside rule.Inside (sizes m) place (named table.Overrides o) ∷ flat_map (size_once m met t place) (at m.overrides o)

abbrev pub type_once : Module → ℕ → ℕ → Item → List Test
type_once m met t i = base_tests t i ++ flat_map (pending_once m met t i.place) (pending_of i)

-- the types from number t on, and then the expressions that are left
abbrev pub types_once : Module → ℕ → ℕ → List Item → List Test
types_once m met t [] = numbered_from (const_expression_tests m) met (drop met m.expressions)
types_once m met t (i ∷ types) = type_once m met t i ++ types_once m (met_after met (inits m i)) (suc t) types

abbrev pub check_once_tests : Module → List Test
check_once_tests m = types_once m 0 0 m.types ++ later_tests m

-- testing each global expression once changes no answer
abbrev pub TestedOnce : Type 0
TestedOnce = (m : Module) → first (check_once_tests m) ≡ check m
