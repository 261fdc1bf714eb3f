use Rattle.std.proofs.Common.{◌≡◌, [], length}
use Rattle.records.specs.Left.{body_left}
use Rattle.records.specs.Gathered.{word_handles, handles_left}
use Rattle.records.proofs.handles.HandlesIterator.next.Given as goal

abbrev pub invariant-loop-handle : goal.invariant-loop-handle
invariant-loop-handle l = (handles_left l.self ≡ handles_left l.fn.self) × (word_handles l.self.front ≡ [])

abbrev pub decreases-loop-handle : goal.decreases-loop-handle
decreases-loop-handle l = length (body_left l.self.later)
