-- A table has no more nodes than there are kept records.
use Rattle.std.proofs.Common.{◌≡◌, ℕ, ◌≤◌, suc, List, length, min, map, Some, None, Option, sym, ap, ◌∙◌, arith}
use Rattle.std.specs.List.{slice_get}
use Rattle.std.specs.Option.{option_map}
use Rattle.std.proofs.lemmas.List.{length-map}
use Rattle.std.proofs.lemmas.Option.{slice_get-map, same_Some}
use Rattle.ir.specs.declared.handle.Table.{Table}
use Rattle.ir.specs.declared.handle.Table.TheVariants as table
use Rattle.rules.specs.Module.{Record, Item}
use Rattle.draft.specs.declared.state.SlotTable.{SlotTable}
use Rattle.draft.specs.declared.state.SlotTable.TheVariants as slot
use Rattle.items.specs.declared.section.Section.{Section}
use Rattle.items.specs.declared.section.Section.TheVariants.{Numbered}
use Rattle.items.specs.Between.{items_between}
use Rattle.items.specs.Whole.{items_of, body_of, ending_from, module_of}
use Rattle.items.proofs.Between.{few_between, between_all}
use Rattle.node.specs.Nodes.{Node}
use Rattle.tables.specs.Tables.{node_of, function_node, inner_nodes}
use Rattle.sealed_walk.specs.declared.walking.DraftTable.{DraftTable}
use Rattle.sealed_walk.specs.declared.walking.DraftTable.TheVariants as draft
use Rattle.sealed_walk.specs.Walking.{nodes_of}

module _ (m : List Record) where
  items_few : (sec : Section) (from to : ℕ) → length (items_between sec m from to) ≤ length m
  items_few sec from to =
      omega (arith, few_between sec m from (min to (length m)), ap length (between_all sec m from to))

  table_few : (t : Table) (sec : Section) (from to : ℕ) (nodes : List Node) → Some (map (node_of t) (items_between sec m from to)) ≡ Some nodes → length nodes ≤ length m
  table_few t sec from to nodes e =
      let items = items_between sec m from to in
      omega (arith, items_few sec from to, length-map items (node_of t), ap length (same_Some _ _ e))

  functions_few : (nodes : List Node) → nodes_of draft.Functions (module_of m) ≡ Some nodes → length nodes ≤ length m
  functions_few nodes e =
      let items = items_of (Numbered slot.Functions) m in
      omega (arith, items_few (Numbered slot.Functions) 0 (length m), length-map items (body_of m), length-map (map (body_of m) items) function_node, ap length (same_Some _ _ e))

  opened_few : (o : Option Item) (nodes : List Node) → option_map inner_nodes (option_map (body_of m) o) ≡ Some nodes → length nodes ≤ length m
  opened_few None nodes e = absurd cc
  opened_few (Some i) nodes e = table_few table.Expressions (Numbered slot.LocalExpressions) (suc i.place) (ending_from m (suc i.place)) nodes e

  body_few : (t : SlotTable) (n : ℕ) (nodes : List Node) → option_map inner_nodes (slice_get (map (body_of m) (items_of (Numbered t) m)) n) ≡ Some nodes → length nodes ≤ length m
  body_few t n nodes e =
      let items = items_of (Numbered t) m in
      opened_few (slice_get items n) nodes (ap (option_map inner_nodes) (sym (slice_get-map (body_of m) items n)) ∙ e)

  pub nodes_few : (t : DraftTable) (nodes : List Node) → nodes_of t (module_of m) ≡ Some nodes → length nodes ≤ length m
  nodes_few draft.Types nodes e = table_few table.Types (Numbered slot.Types) 0 (length m) nodes e
  nodes_few draft.Filters nodes e = table_few table.Filters (Numbered slot.Filters) 0 (length m) nodes e
  nodes_few draft.Functions nodes e = functions_few nodes e
  nodes_few draft.GlobalExpressions nodes e = table_few table.Expressions (Numbered slot.Expressions) 0 (length m) nodes e
  nodes_few (draft.Function n) nodes e = body_few slot.Functions n nodes e
  nodes_few (draft.EntryPoint n) nodes e = body_few slot.EntryPoints n nodes e
