-- Of a sealed draft: every handle of a kept record is inside, in the right body, unless a later record replaced it; and so
-- are the numbers that Emit and FunctionArgument give.
use Rattle.std.specs.Prelude.{◌≡◌, ℕ, ◌<◌, ◌≤◌, ◌⊎◌, true, ◌||◌, List, ◌++◌, length, drop, Some, None, Option}
use Rattle.std.specs.List.{AllByRecursion, slice_get}
use Rattle.records.specs.Handles.{handles_of}
use Rattle.records.specs.Record.{number}
use Rattle.rules.specs.Module.{Record, Item, Body, Module}
use Rattle.rules.specs.Kinds.{Emit, starts_with}
use Rattle.rules.specs.Sizes.{sizes, sizes_in}
use Rattle.draft.specs.State.{start, state}
use Rattle.draft.specs.Admitted.{Accepted}
use Rattle.laws.specs.Decoded.{Replaced}
use Rattle.sealing.specs.Seal.{FunctionArgument, seal_of}
use Rattle.row.specs.Row.{Has}
use Rattle.promises.specs.Inside.{IsInside}

-- the item is there, and the place is not behind it
abbrev pub UpTo : Option Item → ℕ → Type 0
UpTo None p = ⊥
UpTo (Some i) p = p ≤ i.place

-- a place is behind the record that opens a body, up to the one that ends it
abbrev pub StandsIn : Body → ℕ → Type 0
StandsIn b p = (b.opener.place < p) × UpTo b.ending p

-- the record at a place of the draft of a module
pub record RecordInside (m : Module) (p : ℕ) (r : Record) : Type 0 where
  -- in a function or an entry point it names the expressions and the local variables of that body
  pub within : (b : Body) → Has (m.functions ++ m.entries) b → StandsIn b p → AllByRecursion (IsInside (sizes_in (sizes m) b)) (handles_of r)
  -- and outside of all bodies those of the module
  pub outside : ((b : Body) → Has (m.functions ++ m.entries) b → StandsIn b p → ⊥) → AllByRecursion (IsInside (sizes m)) (handles_of r)

-- so it is with every kept record of every draft that sealing accepts, unless a later record replaced it: special types, a
-- leaf and a body's result are replaced by those that come later
abbrev pub SealedKept : Type 0
SealedKept =
    (records : List Record) → Accepted start records → seal_of (state records) ≡ None
    → (p : ℕ) (r : Record) → slice_get records p ≡ Some r
    → Replaced (state records) (p, r) ⊎ RecordInside (state records).built p r

-- the numbers that are no handles, of the record at a place of the draft of a module
pub record NumbersInside (m : Module) (p : ℕ) (r : Record) : Type 0 where
  -- every expression that an Emit covers is one of its body
  pub emitted : (b : Body) → Has (m.functions ++ m.entries) b → StandsIn b p → starts_with Emit r ≡ true → (n : ℕ) → number (drop 1 r) ≤ n → n < number (drop 5 r) → n < length b.expressions
  -- the argument that a FunctionArgument gives is one of its body
  pub given : (b : Body) → Has (m.functions ++ m.entries) b → StandsIn b p → starts_with FunctionArgument r ≡ true → number (drop 1 r) < length b.arguments
  -- and each of the two stands in a body
  pub placed : (starts_with Emit r || starts_with FunctionArgument r) ≡ true → (b : Body) × Has (m.functions ++ m.entries) b × StandsIn b p

-- so it is with every kept record of every draft that sealing accepts
abbrev pub SealedNumbers : Type 0
SealedNumbers =
    (records : List Record) → Accepted start records → seal_of (state records) ≡ None
    → (p : ℕ) (r : Record) → slice_get records p ≡ Some r → NumbersInside (state records).built p r
