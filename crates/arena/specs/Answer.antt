-- What put answers for a record that it accepts.
use Rattle.std.specs.Prelude.{ℕ, Some, None, Option}
use Rattle.std.specs.Option.{option_map}
use Rattle.ir.specs.declared.handle.Handle.{Handle}
use Rattle.ir.specs.declared.handle.Table.{Table}
use Rattle.ir.specs.declared.handle.Table.TheVariants as handles
use Rattle.ir.specs.Handle.{named, index_of}
use Rattle.draft.specs.declared.state.SlotTable.{SlotTable}
use Rattle.draft.specs.declared.state.SlotTable.TheVariants as table

-- the item that the record is, if it is numbered
abbrev pub Answer : Type 0
Answer = Option Handle

-- the table whose handles name the items of a slot's table, where it has numbers: expressions of a body and global ones are both expressions
abbrev pub handle_table : SlotTable → Option Table
handle_table table.Unnumbered = None
handle_table table.Taken = None
handle_table table.Types = Some handles.Types
handle_table table.Overrides = Some handles.Overrides
handle_table table.Constants = Some handles.Constants
handle_table table.GlobalVariables = Some handles.GlobalVariables
handle_table table.Filters = Some handles.Filters
handle_table table.Expressions = Some handles.Expressions
handle_table table.Functions = Some handles.Functions
handle_table table.EntryPoints = Some handles.EntryPoints
handle_table table.LocalVariables = Some handles.LocalVariables
handle_table table.LocalExpressions = Some handles.Expressions

-- the item with that number
abbrev pub answered : SlotTable → ℕ → Answer
answered t n = option_map (λ h. named h n) (handle_table t)

-- the number of an answer: 0, no table's number, where there is none
abbrev pub answer_number : Answer → ℕ
answer_number (Some h) = index_of h
answer_number None = 0
