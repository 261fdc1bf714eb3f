use Rattle.std.proofs.Common.{◌≡◌, length, take, drop}
use Rattle.node.specs.Nodes.{operands_in_all}
use Rattle.walk.proofs.Rules.{Made}
use Rattle.walk.proofs.walk.walk.Given as goal

-- the items so far have their values and are counted with their operands, and what lies beyond all items is as it was
abbrev pub invariant-loop-item : goal.invariant-loop-item
invariant-loop-item g l =
    (g.T.NodeTable.nodes l.table ≡ g.T.NodeTable.nodes l.initial.table) ×
    (l.tally.items ≡ l.item) ×
    (l.tally.takes ≡ operands_in_all (take l.item (g.T.NodeTable.nodes l.initial.table))) ×
    (drop (length (g.T.NodeTable.nodes l.initial.table)) l.values ≡ drop (length (g.T.NodeTable.nodes l.initial.table)) l.initial.values) ×
    Made (g.R.Reading.steps l.reading) (g.T.NodeTable.nodes l.initial.table) l.item l.values
