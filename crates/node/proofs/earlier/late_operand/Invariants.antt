use Rattle.std.proofs.Common.{◌≡◌, length, drop}
use Rattle.node.specs.Nodes.{operands_at}
use Rattle.node.specs.Late.{first_late}
use Rattle.node.proofs.earlier.late_operand.Given as goal

-- the operands so far are earlier
abbrev pub invariant-loop-place : goal.invariant-loop-place
invariant-loop-place g l =
    (g.T.NodeTable.nodes l.table ≡ g.T.NodeTable.nodes l.fn.table)
    × (l.count ≡ length (operands_at (g.T.NodeTable.nodes l.fn.table) l.item))
    × (first_late l.item (operands_at (g.T.NodeTable.nodes l.fn.table) l.item) ≡ first_late l.item (drop l.place (operands_at (g.T.NodeTable.nodes l.fn.table) l.item)))
