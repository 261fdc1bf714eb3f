use Rattle.std.proofs.Common.{◌≡◌, length}
use Rattle.items.specs.Item.{items_left}
use Rattle.tables.specs.Operands.{of_kind_left}
use Rattle.tables.proofs.others.OfKindIterator.next.Given as goal

abbrev pub invariant-loop-item : goal.invariant-loop-item
invariant-loop-item l = of_kind_left l.self ≡ of_kind_left l.initial.self

abbrev pub decreases-loop-item : goal.decreases-loop-item
decreases-loop-item l = length (items_left l.self.items)
