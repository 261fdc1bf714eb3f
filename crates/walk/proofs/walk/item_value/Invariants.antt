use Rattle.std.proofs.Common.{◌≡◌, ◌+◌, take}
use Rattle.node.specs.Nodes.{operands_at}
use Rattle.walk.specs.Rule.{Takes}
use Rattle.walk.proofs.walk.item_value.Given as goal

-- the values of the operands so far are taken, and each is counted
abbrev pub invariant-loop-place : goal.invariant-loop-place
invariant-loop-place g l =
    (g.T.NodeTable.nodes l.table ≡ g.T.NodeTable.nodes l.initial.table) ×
    (l.tally.items ≡ l.initial.tally.items) ×
    (l.tally.takes ≡ l.initial.tally.takes + l.place) ×
    Takes (g.R.Reading.steps l.reading) l.values l.initial.running (take l.place (operands_at (g.T.NodeTable.nodes l.initial.table) l.item)) l.running
