use Rattle.std.proofs.Common.{◌≡◌, ◌-◌}
use Rattle.items.specs.Item.{items_left}
use Rattle.items.proofs.items.ItemsIterator.next.Given as goal

abbrev pub invariant-loop-self : goal.invariant-loop-self
invariant-loop-self l = items_left l.self ≡ items_left l.initial.self

abbrev pub decreases-loop-self : goal.decreases-loop-self
decreases-loop-self l = l.self.end - l.self.place
