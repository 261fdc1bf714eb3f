-- What sealing promises of kept records that it accepts.
use Rattle.std.specs.Prelude.{◌≡◌, ℕ, ◌⊎◌, List, Some, None}
use Rattle.std.specs.List.{slice_get}
use Rattle.rules.specs.Module.{Record}
use Rattle.draft.specs.State.{start, state}
use Rattle.draft.specs.Admitted.{Accepted}
use Rattle.laws.specs.Decoded.{Replaced}
use Rattle.sealing.specs.Seal.{seal_of}
use Rattle.promises.specs.Inside.{ModuleInside}
use Rattle.promises.specs.Kept.{RecordInside, NumbersInside}
use Rattle.promises.specs.Rows.{RowItem, IsModuleRow}

-- what holds of them
pub record Promises (records : List Record) : Type 0 where
  -- every handle of the module's items is inside, every expression that an Emit covers, and every argument that is given
  pub inside : ModuleInside (state records).built
  -- so is every handle of every kept record, unless a later one replaced it
  pub kept : (p : ℕ) (r : Record) → slice_get records p ≡ Some r → Replaced (state records) (p, r) ⊎ RecordInside (state records).built p r
  -- so is every expression that a kept Emit covers, and every argument that a kept FunctionArgument gives
  pub numbers : (p : ℕ) (r : Record) → slice_get records p ≡ Some r → NumbersInside (state records).built p r
  -- types, overrides, constants and global expressions can stand in one row, each once and after all of these that its
  -- handles point to
  pub row : List RowItem
  pub is_row : IsModuleRow (state records).built row

-- so it is with the records of every draft that sealing accepts
abbrev pub SealedPromises : Type 0
SealedPromises = (records : List Record) → Accepted start records → seal_of (state records) ≡ None → Promises records
