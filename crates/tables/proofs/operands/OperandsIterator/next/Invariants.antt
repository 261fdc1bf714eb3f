use Rattle.std.proofs.Common.{◌≡◌, length}
use Rattle.tables.specs.Operands.{others_left, operands_left}
use Rattle.tables.proofs.operands.OperandsIterator.next.Given as goal

abbrev pub invariant-loop-number : goal.invariant-loop-number
invariant-loop-number l = operands_left l.self ≡ operands_left l.initial.self

abbrev pub decreases-loop-number : goal.decreases-loop-number
decreases-loop-number l = length (others_left l.self.others)
