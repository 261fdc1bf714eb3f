-- What it means that the check answers no fault.
use Rattle.std.specs.Prelude.{◌≡◌, ℕ, ◌<◌, true, List, ◌++◌, Some, None, slice_get}
use Rattle.std.specs.List.{AllByRecursion}
use Rattle.ir.specs.declared.handle.Table.{Table}
use Rattle.ir.specs.declared.handle.Table.TheVariants as table
use Rattle.records.specs.Handles.{handles_of}
use Rattle.rules.specs.Module.{Item, Body, Module}
use Rattle.rules.specs.Kinds.{CallResult, is}
use Rattle.rules.specs.Items.{handles, numbers}
use Rattle.rules.specs.Fault.{Test}
use Rattle.rules.specs.Check.{check_tests, check}

-- every test of a list passes
abbrev pub AllHold : List Test → Type 0
AllHold tests = AllByRecursion (λ t. t.passes ≡ true) tests

-- every test of a module passes
abbrev pub Holds : Module → Type 0
Holds m = AllHold (check_tests m)

-- the check answers no fault exactly when every test passes
pub record ExactlyWhenAllHold (m : Module) : Type 0 where
  pub holds : check m ≡ None → Holds m
  pub passes : Holds m → check m ≡ None

-- each item of a table names only earlier items of that table
abbrev pub NamesEarlier : Table → List Item → Type 0
NamesEarlier t items = (n : ℕ) (i : Item) → slice_get items n ≡ Some i → AllByRecursion (λ x. x < n) (numbers t (handles i))

-- the function f has results of calls of earlier functions only
abbrev pub CallsEarlier : ℕ → Body → Type 0
CallsEarlier f b = (n : ℕ) (i : Item) → slice_get b.expressions n ≡ Some i → is CallResult i ≡ true → AllByRecursion (λ x. x < f) (numbers table.Functions (handles_of i.bytes))

-- what a module's items name comes before them
pub record Ordered (m : Module) : Type 0 where
  -- the operands of an expression, in functions and in entry points
  pub bodies : AllByRecursion (λ b. NamesEarlier table.Expressions b.expressions) (m.functions ++ m.entries)
  -- the base or the members of a type
  pub types : NamesEarlier table.Types m.types
  -- the parent of a filter
  pub filters : NamesEarlier table.Filters m.filters
  -- the functions that a function has results of
  pub calls : (f : ℕ) (b : Body) → slice_get m.functions f ≡ Some b → CallsEarlier f b

-- what the answer of the check says of a module
pub record Verdict (m : Module) : Type 0 where
  pub exact : ExactlyWhenAllHold m
  pub ordered : check m ≡ None → Ordered m
