use Rattle.std.proofs.Common.{◌≡◌, length}
use Rattle.records.specs.Image.{split}
use Rattle.arena.specs.Memory.{Stands, records}
use Rattle.images.specs.Putting.{put_all}
use Rattle.images.proofs.put.put_all.Given as goal

-- what is left of the image decides, put on what is kept
abbrev pub invariant-loop-record : goal.invariant-loop-record
invariant-loop-record l = record {
  can_next : goal.iterator-loop-record.can_next l.record-iterator;
  is_finite : goal.iterator-loop-record.is_finite l.record-iterator;
  stands : Stands l.draft l.bytes l.slots;
  same : put_all (length l.initial.bytes) (length l.initial.slots) (records l.initial.draft l.initial.bytes l.initial.slots) (split l.initial.image) ≡ put_all (length l.initial.bytes) (length l.initial.slots) (records l.draft l.bytes l.slots) (split l.record-iterator.rest.now);
}
