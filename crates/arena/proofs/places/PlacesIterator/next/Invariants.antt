use Rattle.std.proofs.Common.{◌≡◌, length}
use Rattle.std.specs.Iterator.Adapters.{enumerate_source}
use Rattle.std.specs.Slice.Iter.{iter_rest}
use Rattle.arena.specs.Viewing.{places_ahead}
use Rattle.arena.proofs.places.PlacesIterator.next.Given as goal

abbrev pub invariant-loop-place : goal.invariant-loop-place
invariant-loop-place l = places_ahead l.self ≡ places_ahead l.initial.self

abbrev pub decreases-loop-place : goal.decreases-loop-place
decreases-loop-place l = length (iter_rest (enumerate_source l.self.slots))
