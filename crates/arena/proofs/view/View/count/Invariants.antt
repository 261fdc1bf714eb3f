use Rattle.std.proofs.Common.{◌≡◌, ◌+◌, ◌≤◌, false, length, drop}
use Rattle.arena.specs.Viewing.{places_left}
use Rattle.arena.proofs.view.View.count.Given as goal

abbrev pub invariant-loop-slot : goal.invariant-loop-slot
invariant-loop-slot l = (l.count + length (places_left l.home l.wanted l.inside l.slot-index (drop l.slot-index l.slot-items)) ≡ length (places_left l.home l.wanted false 0 l.slot-items)) × (l.count ≤ l.slot-index)
