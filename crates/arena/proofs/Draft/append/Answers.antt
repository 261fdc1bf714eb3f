use Rattle.std.proofs.Common.{◌≡◌, ◌+◌, ◌<◌, ◌≤◌, ◌++◌, length, take, sym, ap, ◌∙◌, arith}
use Rattle.std.proofs.lemmas.Slice.{take-put_mid}
use Rattle.draft.specs.State.{table_in}
use Rattle.draft.specs.Manner.{turn_of}
use Rattle.draft.specs.Counting.{counted, advanced, top}
use Rattle.arena.proofs.Placing.{used_within, depth_within}
use Rattle.arena.proofs.Putting.{room_parts, waiting_kept, turns_now, appended}
use Rattle.arena.proofs.Draft.append.Goals as goal

pub has_room-requires : goal.has_room-requires
has_room-requires c = used_within c.requires.stands

pub advance-requires : goal.advance-requires
advance-requires c =
    let p = room_parts (length c.args.bytes.now) (length c.args.slots.now) c.args.self.now.counts.used c.args.self.now.counts.kept (length c.args.record.now) c.next-number.result (sym c.has_room.ensures ∙ c.if-not-has_room.false) in
    let u : c.args.self.now.counts.used + length c.args.record.now ≤ length c.args.bytes.now = p.0 in
    let k : c.args.self.now.counts.kept < length c.args.slots.now = p.1 in
    let q : c.next-number.result < 4294967295 = p.2 in
    let w = waiting_kept c.requires.stands in
    let n : counted c.args.self.now.counts.lengths (table_in c.args.self.now.counts.opened c.manner-ways.result.table) ≡ c.next-number.result = sym (c.next-number.ensures ∙ ap (counted c.args.self.now.counts.lengths) c.table_in-table.ensures) in
    record {
      used = omega arith;
      kept = omega arith;
      waiting = omega arith;
      number = omega arith;
      depth = depth_within c.requires.stands;
      turns = λ t is. turns_now c.requires.stands c.args.record.now c.args.kind c.requires.sound t (ap (λ w. turn_of (top c.args.self.now.counts.brackets) w.motion) (sym c.manner-ways.ensures) ∙ is);
    }

pub returns : goal.returns
returns c =
    let within = used_within c.requires.stands in
    let copied = c.copy_from_slice.ensures.after in
    appended c.requires.stands c.args.record.now c.args.kind c.requires.sound c.table_in-table.result (c.table_in-table.ensures ∙ ap (λ w. table_in c.args.self.now.counts.opened w.table) c.manner-ways.ensures) c.next-number.result c.next-number.ensures (sym c.has_room.ensures ∙ c.if-not-has_room.false) c.advance.new.self (c.advance.ensures ∙ ap (advanced c.args.self.now.counts (length c.args.record.now)) c.manner-ways.ensures) _
    (take-put_mid _ _ c.args.bytes.now c.copy_from_slice.new.self _ (ap (λ b. c.args.self.now.counts.used + length b) (sym copied)) within ∙ ap (λ b. take c.args.self.now.counts.used c.args.bytes.now ++ b) copied) _ c.item.ensures
