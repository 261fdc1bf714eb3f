-- The operands of a table in all are no more than the bytes that are lent, or twice as many.
use Rattle.std.proofs.Common.{◌≡◌, ℕ, ◌+◌, ◌≤◌, List, [], ◌∷◌, map, length, sum_by, refl, ap, arith, length-take}
use Rattle.std.proofs.lemmas.List.Sums.{sum_by-cons, sum_by-le-sum_by}
use Rattle.ir.specs.declared.handle.Table.{Table}
use Rattle.rules.specs.Module.{Item}
use Rattle.rules.specs.Items.{handles, numbers}
use Rattle.draft.specs.declared.state.SlotTable.{SlotTable}
use Rattle.draft.specs.declared.state.SlotTable.TheVariants as slots
use Rattle.draft.specs.Admitted.{image}
use Rattle.arena.specs.declared.view.View.{View}
use Rattle.arena.specs.Viewing.{rank, viewed}
use Rattle.items.specs.declared.section.Section.TheVariants.{Numbered}
use Rattle.items.specs.Between.{items_between}
use Rattle.items.specs.Whole.{items_of}
use Rattle.node.specs.Nodes.{Node, operands_in_all}
use Rattle.tables.specs.declared.source.Source.{Source}
use Rattle.tables.specs.declared.source.Source.TheVariants as source
use Rattle.tables.specs.Entering.{operands_by, node_by}
use Rattle.tables.proofs.Weighing.{weight, item_few, between_weigh}
use Rattle.tables.proofs.Calling.{all_calls}

-- of the items as nodes
nodes_all : (s : Source) (items : List Item) → operands_in_all (map (node_by s) items) ≡ sum_by (λ i. length (operands_by s i)) items
nodes_all s [] = refl
nodes_all s (i ∷ items) =
    omega (arith, sum_by-cons (λ (n : Node). length n.operands) (node_by s i) (map (node_by s) items), sum_by-cons (λ (j : Item). length (operands_by s j)) i items, nodes_all s items)

module _ (v : View) where
  -- what a view shows was lent
  pub lent : length (image (viewed v)) ≤ length v.bytes.now
  lent = omega (arith, length-take v.draft.now.counts.used v.bytes.now, ap length v.stands.bytes_are)

  -- the operands of a table of handles, and the functions that are called
  pub handles_in_all : (t : Table) (w : SlotTable) → (rank w ≡ 1 → ⊥) → (x to : ℕ) (items : List Item) → items ≡ items_between (Numbered w) (viewed v) x to → operands_in_all (map (node_by (source.Handles t)) items) ≤ length v.bytes.now
  handles_in_all t w untaken x to items e =
      let made = items_between (Numbered w) (viewed v) x to in
      omega (arith, lent, ap (λ l. operands_in_all (map (node_by (source.Handles t)) l)) e, nodes_all (source.Handles t) made, sum_by-le-sum_by (λ (i : Item). length (numbers t (handles i))) weight made (item_few t), between_weigh (viewed v) v.stands.accepted w untaken x to)

  pub calls_in_all : (items : List Item) → items ≡ items_of (Numbered slots.Functions) (viewed v) → operands_in_all (map (node_by (source.Calls v)) items) ≤ length v.bytes.now + length v.bytes.now
  calls_in_all items e =
      omega (arith, lent, ap (λ l. operands_in_all (map (node_by (source.Calls v)) l)) e, nodes_all (source.Calls v) (items_of (Numbered slots.Functions) (viewed v)), all_calls (viewed v) v.stands.accepted)
