use Rattle.std.proofs.Common.{◌≡◌, drop}
use Rattle.node.specs.Late.{first_late_from}
use Rattle.node.proofs.earlier.late_in.Given as goal

-- the operands of the items so far are earlier
abbrev pub invariant-loop-item : goal.invariant-loop-item
invariant-loop-item g l =
    (g.T.NodeTable.nodes l.table ≡ g.T.NodeTable.nodes l.fn.table)
    × (first_late_from 0 (g.T.NodeTable.nodes l.fn.table) ≡ first_late_from l.item (drop l.item (g.T.NodeTable.nodes l.fn.table)))
