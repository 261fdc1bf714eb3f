-- In a sealed module every handle is inside, and so is every expression that an Emit covers.
use Rattle.std.specs.Prelude.{◌≡◌, ℕ, ◌<◌, ◌≤◌, true, List, length, None}
use Rattle.std.specs.List.{AllByRecursion}
use Rattle.std.specs.Option.{option_to_list}
use Rattle.ir.specs.declared.handle.Handle.{Handle}
use Rattle.ir.specs.Handle.{table_of, index_of}
use Rattle.rules.specs.declared.sizes.Sizes.{Sizes}
use Rattle.rules.specs.Module.{Record, Item, Body, Module}
use Rattle.rules.specs.Kinds.{Emit, is}
use Rattle.rules.specs.Sizes.{size_in, sizes, sizes_in}
use Rattle.rules.specs.Items.{handles}
use Rattle.rules.specs.Check.{start_of, end_of}
use Rattle.draft.specs.State.{start, state}
use Rattle.draft.specs.Admitted.{Accepted}
use Rattle.sealing.specs.Seal.{FunctionArgument, argument_number, seal_of}

-- the number that a handle gives is below the number of items of its table
abbrev pub IsInside : Sizes → Handle → Type 0
IsInside s h = index_of h < size_in s (table_of h)

-- every handle of an item, and of the records that it took, is inside
abbrev pub ItemInside : Sizes → Item → Type 0
ItemInside s i = AllByRecursion (IsInside s) (handles i)

-- so it is with each of these
abbrev pub ItemsInside : Sizes → List Item → Type 0
ItemsInside s items = AllByRecursion (ItemInside s) items

-- every expression that a statement covers, if it is an Emit, is one of so many
abbrev pub EmitInside : ℕ → Item → Type 0
EmitInside count s = is Emit s ≡ true → (n : ℕ) → start_of s ≤ n → n < end_of s → n < count

-- the argument that an expression gives, if it is a FunctionArgument, is one of so many
abbrev pub ArgumentInside : ℕ → Item → Type 0
ArgumentInside count i = is FunctionArgument i ≡ true → argument_number i < count

-- a function or an entry point, in a module with tables of these sizes: what stands in it names its own expressions and
-- local variables, and its opener those of the module
pub record BodyInside (s : Sizes) (b : Body) : Type 0 where
  pub opener : ItemInside s b.opener
  pub arguments : ItemsInside (sizes_in s b) b.arguments
  pub result : ItemsInside (sizes_in s b) (option_to_list b.result)
  pub locals : ItemsInside (sizes_in s b) b.locals
  pub named : ItemsInside (sizes_in s b) b.named
  pub expressions : ItemsInside (sizes_in s b) b.expressions
  pub statements : ItemsInside (sizes_in s b) b.statements
  pub emitted : AllByRecursion (EmitInside (length b.expressions)) b.statements
  pub given : AllByRecursion (ArgumentInside (length b.arguments)) b.expressions

-- a module: every handle of each of its items is inside, and each body is
pub record ModuleInside (m : Module) : Type 0 where
  pub types : ItemsInside (sizes m) m.types
  pub overrides : ItemsInside (sizes m) m.overrides
  pub constants : ItemsInside (sizes m) m.constants
  pub globals : ItemsInside (sizes m) m.globals
  pub special : ItemsInside (sizes m) (option_to_list m.special)
  pub predeclared : ItemsInside (sizes m) m.predeclared
  pub filters : ItemsInside (sizes m) m.filters
  pub leaf : ItemsInside (sizes m) (option_to_list m.leaf)
  pub expressions : ItemsInside (sizes m) m.expressions
  pub functions : AllByRecursion (BodyInside (sizes m)) m.functions
  pub entries : AllByRecursion (BodyInside (sizes m)) m.entries

-- so it is in the module of every draft that sealing accepts
abbrev pub SealedInside : Type 0
SealedInside = (records : List Record) → Accepted start records → seal_of (state records) ≡ None → ModuleInside (state records).built
