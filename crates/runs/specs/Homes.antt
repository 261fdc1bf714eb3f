-- Where the record that comes next is numbered: in the module, or in the open body.
use Rattle.std.specs.Prelude.{length, Some, None, Option}
use Rattle.ir.specs.declared.kinds.Kind.{Kind}
use Rattle.draft.specs.declared.state.BodyKind.{BodyKind}
use Rattle.draft.specs.declared.state.BodyKind.TheVariants as body_kind
use Rattle.draft.specs.declared.state.SlotTable.{SlotTable}
use Rattle.draft.specs.declared.state.SlotTable.TheVariants as table
use Rattle.draft.specs.State.{State, table_of}
use Rattle.arena.specs.declared.view.Home.{Home}
use Rattle.arena.specs.declared.view.Home.TheVariants as home

-- the open body is the last of its table
abbrev pub home_open : Option BodyKind → State → Home
home_open None s = home.Module
home_open (Some body_kind.Function) s = home.Function (length s.built.functions)
home_open (Some body_kind.EntryPoint) s = home.EntryPoint (length s.built.entries)

-- where a record is numbered that comes next: in the open body, if its table is one of a body
abbrev pub home_in : State → SlotTable → Home
home_in s table.LocalVariables = home_open s.opened s
home_in s table.LocalExpressions = home_open s.opened s
home_in s t = home.Module

-- the same of a record of this kind
abbrev pub home_of : State → Kind → Home
home_of s k = home_in s (table_of s k)
