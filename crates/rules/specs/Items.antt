-- The handles of an item, and what they name.
use Rattle.std.specs.Prelude.{ℕ, zero, suc, Bool, cond, List, [], ◌∷◌, ◌++◌, take, ◌==◌}
use Rattle.std.specs.List.{flat_map}
use Rattle.ir.specs.declared.handle.Table.{Table}
use Rattle.ir.specs.declared.handle.Table.TheVariants as table
use Rattle.ir.specs.declared.handle.Handle.{Handle}
use Rattle.ir.specs.Handle.{table_of, index_of}
use Rattle.records.specs.Handles.{handles_of, field_of}
use Rattle.rules.specs.Module.{Item}

-- the handles of an item: its own, and then those of the records that it took
abbrev pub handles : Item → List Handle
handles i = handles_of i.bytes ++ flat_map handles_of i.taken

-- the handles in some fields of an item's record, field after field, the first field being 0
abbrev pub fields : List ℕ → Item → List Handle
fields ks i = flat_map (field_of i.bytes) ks

-- the tables, numbered, to tell them apart
abbrev pub code : Table → ℕ
code table.Types = 1
code table.Constants = 2
code table.Overrides = 3
code table.GlobalVariables = 4
code table.LocalVariables = 5
code table.Expressions = 6
code table.Functions = 7
code table.Filters = 8
code table.EntryPoints = 9

-- whether a handle is of a table
abbrev pub is_of : Table → Handle → Bool
is_of t h = code (table_of h) == code t

-- the numbers that the handles of one table name, in order
abbrev pub numbers : Table → List Handle → List ℕ
numbers t [] = []
numbers t (h ∷ hs) = cond (is_of t h) (index_of h ∷ numbers t hs) (numbers t hs)

-- the number that the one handle of that table in an item's own record names, if it has one
abbrev pub own : Table → Item → List ℕ
own t i = take 1 (numbers t (handles_of i.bytes))

-- the type of an item, and its init if it has one
abbrev pub type_of : Item → List ℕ
type_of i = own table.Types i

abbrev pub init_of : Item → List ℕ
init_of i = own table.Expressions i

-- the override that a type has as its size, if it has one
abbrev pub pending_of : Item → List ℕ
pending_of i = own table.Overrides i

-- the item with that number, if there is one
abbrev pub at : {X : Type 0} → List X → ℕ → List X
at [] n = []
at (x ∷ xs) zero = x ∷ []
at (x ∷ xs) (suc n) = at xs n
