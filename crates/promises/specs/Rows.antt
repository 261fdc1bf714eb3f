-- A row of a module: its types, overrides, constants and global expressions, each once and after all of these that its
-- handles point to.
use Rattle.std.specs.Prelude.{◌≡◌, ℕ, zero, suc, ◌+◌, ◌*◌, ◌<◌, max, List, [], ◌∷◌, ◌++◌, map, length, take, Some, None, Option}
use Rattle.std.specs.List.{slice_get, flat_map}
use Rattle.ir.specs.declared.handle.Table.TheVariants as table
use Rattle.ir.specs.declared.handle.Handle.{Handle}
use Rattle.ir.specs.Handle.{named}
use Rattle.rules.specs.Module.{Record, Item, Module}
use Rattle.rules.specs.Items.{handles, type_of, init_of, at}
use Rattle.rules.specs.Once.{inits}
use Rattle.draft.specs.State.{start, state}
use Rattle.draft.specs.Admitted.{Accepted}
use Rattle.sealing.specs.Seal.{seal_of}
use Rattle.row.specs.Row.{Has, IsRow, sort}

-- an item of one of the four tables, by its number
pub data RowItem : Type 0 where
  type : ℕ → RowItem
  override : ℕ → RowItem
  constant : ℕ → RowItem
  expression : ℕ → RowItem

-- the table has an item with that number
abbrev pub IsItemOf : Module → RowItem → Type 0
IsItemOf m (RowItem.type t) = t < length m.types
IsItemOf m (RowItem.override o) = o < length m.overrides
IsItemOf m (RowItem.constant c) = c < length m.constants
IsItemOf m (RowItem.expression e) = e < length m.expressions

-- the item with that number, if there is one
abbrev pub item_at : Module → RowItem → Option Item
item_at m (RowItem.type t) = slice_get m.types t
item_at m (RowItem.override o) = slice_get m.overrides o
item_at m (RowItem.constant c) = slice_get m.constants c
item_at m (RowItem.expression e) = slice_get m.expressions e

-- the handle that names it
abbrev pub handle_of : RowItem → Handle
handle_of (RowItem.type t) = named table.Types t
handle_of (RowItem.override o) = named table.Overrides o
handle_of (RowItem.constant c) = named table.Constants c
handle_of (RowItem.expression e) = named table.Expressions e

-- x points to y: its record, or one that it took, has the handle of y
abbrev pub PointsTo : Module → RowItem → RowItem → Type 0
PointsTo m x y = (i : Item) × (item_at m x ≡ Some i) × Has (handles i) (handle_of y)

-- a row of the module: a list of all items of the four tables, each once and after all that it points to
abbrev pub IsModuleRow : Module → List RowItem → Type 0
IsModuleRow m row = IsRow (IsItemOf m) (PointsTo m) row

-- the least number above all of these
abbrev pub above : List ℕ → ℕ
above [] = 0
above (n ∷ ns) = max (suc n) (above ns)

-- for how many global expressions the types up to t wait: those up to the inits of their sizes
abbrev pub room : Module → ℕ → ℕ
room m t = above (flat_map (inits m) (take (suc t) m.types))

-- how far the ranks of an expression and of the next one are apart: for each type there is its own rank and the one
-- behind it, for overrides and constants
unfoldable pub wide : Module → ℕ
wide m = 2 * length m.types + 4

-- a type stands behind the expressions that it waits for, and behind the earlier types
unfoldable pub type_rank : Module → ℕ → ℕ
type_rank m t = room m t * wide m + (2 * t + 1)

-- expressions stand in the order of their numbers, each behind all types that wait for earlier ones only
unfoldable pub expression_rank : Module → ℕ → ℕ
expression_rank m e = e * wide m + (2 * length m.types + 3)

-- the ranks of the type and of the init of an override or a constant
abbrev pub value_ranks : Module → Item → List ℕ
value_ranks m v = map (type_rank m) (type_of v) ++ map (expression_rank m) (init_of v)

-- the rank of an item: that of an override or a constant is just above those of its type and its init
abbrev pub rank : Module → RowItem → ℕ
rank m (RowItem.type t) = type_rank m t
rank m (RowItem.override o) = above (flat_map (value_ranks m) (at m.overrides o))
rank m (RowItem.constant c) = above (flat_map (value_ranks m) (at m.constants c))
rank m (RowItem.expression e) = expression_rank m e

-- what f makes of so many numbers, from a number on
abbrev pub counted : {X : Type 0} → (ℕ → X) → ℕ → ℕ → List X
counted f n zero = []
counted f n (suc k) = f n ∷ counted f (suc n) k

-- all items of the four tables
abbrev pub row_items : Module → List RowItem
row_items m =
    counted RowItem.type 0 (length m.types)
    ++ (counted RowItem.override 0 (length m.overrides)
    ++ (counted RowItem.constant 0 (length m.constants)
    ++ counted RowItem.expression 0 (length m.expressions)))

-- the row of a module
unfoldable pub row : Module → List RowItem
row m = sort (rank m) (row_items m)

-- in the module of every draft that sealing accepts, it is a row
abbrev pub SealedRow : Type 0
SealedRow = (records : List Record) → Accepted start records → seal_of (state records) ≡ None → IsModuleRow (state records).built (row (state records).built)
