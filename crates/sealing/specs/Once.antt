-- The same answers with each global expression looked at once: a type looks at those that no earlier type has met.
use Rattle.std.specs.Prelude.{◌≡◌, ℕ, suc, List, [], ◌∷◌, ◌++◌}
use Rattle.std.specs.List.{flat_map}
use Rattle.rules.specs.Module.{Item, Module}
use Rattle.rules.specs.Sizes.{sizes}
use Rattle.rules.specs.Fault.{Test, first, numbered}
use Rattle.rules.specs.Once.{inits, met_after, unmet}
use Rattle.sealing.specs.Seal.{global_tests, waited_tests, inner_then_other_tests, seal_tests}

-- of those up to the init e that no type has met
abbrev pub up_to_once : Module → ℕ → ℕ → ℕ → ℕ → List Test
up_to_once m met t place e = flat_map (waited_tests m t place) (unmet m met e)

-- of a type, by the inits of its size
abbrev pub pending_once : Module → ℕ → ℕ → Item → List Test
pending_once m met t i = flat_map (up_to_once m met t i.place) (inits m i)

-- the types from number t on
abbrev pub sizes_once : Module → ℕ → ℕ → List Item → List Test
sizes_once m met t [] = []
sizes_once m met t (i ∷ types) = pending_once m met t i ++ sizes_once m (met_after met (inits m i)) (suc t) types

-- the tests that the check leaves out
abbrev pub seal_once_tests : Module → List Test
seal_once_tests m =
    numbered (global_tests (sizes m)) m.expressions
    ++ (sizes_once m 0 0 m.types
    ++ inner_then_other_tests m)

-- looking at each once changes no answer
abbrev pub LookedAtOnce : Type 0
LookedAtOnce = (m : Module) → first (seal_once_tests m) ≡ first (seal_tests m)
