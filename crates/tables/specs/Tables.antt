-- The tables of a module and of a body, as nodes.
use Rattle.std.specs.Prelude.{ℕ, List, ◌++◌, map, filter}
use Rattle.std.specs.List.{flat_map}
use Rattle.ir.specs.declared.handle.Table.{Table}
use Rattle.ir.specs.declared.handle.Table.TheVariants as table
use Rattle.records.specs.Handles.{handles_of}
use Rattle.rules.specs.Module.{Record, Item, Body, Module}
use Rattle.rules.specs.Kinds.{CallResult, Call, is}
use Rattle.rules.specs.Items.{handles, numbers}
use Rattle.node.specs.Nodes.{Node}

-- an item takes what its handles of one table name, those of the records that it took included
abbrev pub node_of : Table → Item → Node
node_of t i = record { bytes = i.bytes; operands = numbers t (handles i) }

-- the records of the items of one kind
abbrev pub records_of : ℕ → List Item → List Record
records_of k items = map (λ i. i.bytes) (filter (is k) items)

-- the functions that a body calls: first those that it has results of
abbrev pub callees : Body → List ℕ
callees b = numbers table.Functions (flat_map handles_of (records_of CallResult b.expressions ++ records_of Call b.statements))

-- a function takes those that it calls
abbrev pub function_node : Body → Node
function_node b = record { bytes = b.opener.bytes; operands = callees b }

abbrev pub types_nodes : Module → List Node
types_nodes m = map (node_of table.Types) m.types

abbrev pub filters_nodes : Module → List Node
filters_nodes m = map (node_of table.Filters) m.filters

-- the global expressions
abbrev pub expressions_nodes : Module → List Node
expressions_nodes m = map (node_of table.Expressions) m.expressions

-- the expressions of a body
abbrev pub inner_nodes : Body → List Node
inner_nodes b = map (node_of table.Expressions) b.expressions

abbrev pub functions_nodes : Module → List Node
functions_nodes m = map function_node m.functions
