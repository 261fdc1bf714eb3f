-- Walking a table of a sealed draft.
use Rattle.std.specs.Prelude.{◌≡◌, List, Some, None, Option, Ok, Err, Result}
use Rattle.std.specs.List.{slice_get}
use Rattle.std.specs.Option.{option_map}
use Rattle.rules.specs.Module.{Module}
use Rattle.node.specs.Nodes.{Node}
use Rattle.tables.specs.Tables.{types_nodes, filters_nodes, functions_nodes, expressions_nodes, inner_nodes}
use Rattle.walk.specs.declared.walk.Tally.{Tally}
use Rattle.walk.specs.declared.walk.WalkRefusal.{WalkRefusal}
use Rattle.walk.specs.declared.walk.WalkRefusal.TheVariants.{NoSuchBody}
use Rattle.walk.specs.Steps.{Steps}
use Rattle.walk.specs.Walked.{Walked}
use Rattle.sealed_walk.specs.declared.walking.DraftTable.{DraftTable}
use Rattle.sealed_walk.specs.declared.walking.DraftTable.TheVariants as table

-- the nodes of a table of a module; there are none for a function or an entry point that it does not have
abbrev pub nodes_of : DraftTable → Module → Option (List Node)
nodes_of table.Types m = Some (types_nodes m)
nodes_of table.Filters m = Some (filters_nodes m)
nodes_of table.Functions m = Some (functions_nodes m)
nodes_of table.GlobalExpressions m = Some (expressions_nodes m)
nodes_of (table.Function n) m = option_map inner_nodes (slice_get m.functions n)
nodes_of (table.EntryPoint n) m = option_map inner_nodes (slice_get m.entries n)

-- the nodes of a table that was looked for: something before may be refused, and there may be no such table
abbrev pub unless_refused : {F E : Type 0} → (F → E) → (WalkRefusal → E) → Option F → Option (List Node) → Result (List Node) E
unless_refused before refused (Some e) nodes = Err (before e)
unless_refused before refused None None = Err (refused NoSuchBody)
unless_refused before refused None (Some nodes) = Ok nodes

-- where there is no such table the walk refuses and the values are as they were; a table is walked as its nodes are
abbrev pub WalkedAs : {W V : Type 0} → Steps W V → Option (List Node) → List V → List V → Result Tally WalkRefusal → Type 0
WalkedAs s None before after r = (r ≡ Err NoSuchBody) × (after ≡ before)
WalkedAs s (Some nodes) before after r = Walked s nodes before after r
