-- Handles: a table and a number make one, and it has them.
use Rattle.std.specs.Prelude.{ℕ}
use Rattle.ir.specs.declared.handle.Table.{Table}
use Rattle.ir.specs.declared.handle.Table.TheVariants.{Types, Constants, Overrides, GlobalVariables, LocalVariables, Expressions, Functions, Filters, EntryPoints}
use Rattle.ir.specs.declared.handle.HandleIn.{HandleIn}
use Rattle.ir.specs.declared.handle.tables.Types.{Types as TypesTable}
use Rattle.ir.specs.declared.handle.Handle.{Handle}
use Rattle.ir.specs.declared.handle.Handle.TheVariants as handle

-- the handle of the item with that number in the table T
abbrev pub numbered : {T : Type 0} → ℕ → HandleIn T
numbered n = record { index = n; marker = record {} }

-- the number of a type
abbrev pub TypeHandle : Type 0
TypeHandle = HandleIn TypesTable

-- the handle of the item with that number in that table
abbrev pub named : Table → ℕ → Handle
named Types n = handle.Type (numbered n)
named Constants n = handle.Constant (numbered n)
named Overrides n = handle.Override (numbered n)
named GlobalVariables n = handle.GlobalVariable (numbered n)
named LocalVariables n = handle.LocalVariable (numbered n)
named Expressions n = handle.Expression (numbered n)
named Functions n = handle.Function (numbered n)
named Filters n = handle.Filter (numbered n)
named EntryPoints n = handle.EntryPoint (numbered n)

-- the table that a handle is of
abbrev pub table_of : Handle → Table
table_of (handle.Type h) = Types
table_of (handle.Constant h) = Constants
table_of (handle.Override h) = Overrides
table_of (handle.GlobalVariable h) = GlobalVariables
table_of (handle.LocalVariable h) = LocalVariables
table_of (handle.Expression h) = Expressions
table_of (handle.Function h) = Functions
table_of (handle.Filter h) = Filters
table_of (handle.EntryPoint h) = EntryPoints

-- the number that it names there
abbrev pub index_of : Handle → ℕ
index_of (handle.Type h) = h.index
index_of (handle.Constant h) = h.index
index_of (handle.Override h) = h.index
index_of (handle.GlobalVariable h) = h.index
index_of (handle.LocalVariable h) = h.index
index_of (handle.Expression h) = h.index
index_of (handle.Function h) = h.index
index_of (handle.Filter h) = h.index
index_of (handle.EntryPoint h) = h.index
