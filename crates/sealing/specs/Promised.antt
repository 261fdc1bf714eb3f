-- What it says of a module that sealing answers no fault.
use Rattle.std.specs.Prelude.{◌≡◌, ℕ, ◌<◌, ◌++◌, length, Some, None}
use Rattle.std.specs.List.{AllByRecursion, slice_get}
use Rattle.rules.specs.Module.{Item, Body, Module}
use Rattle.rules.specs.Once.{inits}
use Rattle.rules.specs.Verdict.{AllHold, CallsEarlier}
use Rattle.walk.specs.Rule.{OperandsEarlier}
use Rattle.tables.specs.Tables.{types_nodes, filters_nodes, functions_nodes, expressions_nodes, inner_nodes}
use Rattle.sealing.specs.Seal.{all_tests, seal}

-- in each of the five tables, those of the bodies of functions and of entry points alike
pub record TablesEarlier (m : Module) : Type 0 where
  pub types : OperandsEarlier (types_nodes m)
  pub filters : OperandsEarlier (filters_nodes m)
  pub functions : OperandsEarlier (functions_nodes m)
  pub expressions : OperandsEarlier (expressions_nodes m)
  pub bodies : AllByRecursion (λ b. OperandsEarlier (inner_nodes b)) (m.functions ++ m.entries)

-- sealing answers no fault exactly when every test passes
pub record ExactlyWhenAllHold (m : Module) : Type 0 where
  pub holds : seal m ≡ None → AllHold (all_tests m)
  pub passes : AllHold (all_tests m) → seal m ≡ None

-- what sealing needs of the check: the init of every pending size is inside
abbrev pub InitsInside : Module → Type 0
InitsInside m = (t : ℕ) (i : Item) → slice_get m.types t ≡ Some i → AllByRecursion (λ e. e < length m.expressions) (inits m i)

-- and every function has results of earlier functions only
abbrev pub ResultsEarlier : Module → Type 0
ResultsEarlier m = (f : ℕ) (b : Body) → slice_get m.functions f ≡ Some b → CallsEarlier f b
