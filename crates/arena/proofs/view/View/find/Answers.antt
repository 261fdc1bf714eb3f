use Rattle.std.proofs.Common.{◌≤◌, length, sym, ap, ◌∙◌, subst}
use Rattle.draft.specs.State.{start, state, item_of}
use Rattle.arena.specs.Viewing.{viewed}
use Rattle.arena.proofs.Placing.{length_layout, begins_within}
use Rattle.arena.proofs.Finding.{known_start, known_end, taking_start, Reached, from_end, same_block, found_here, past_joined, past_type, past_other}
use Rattle.arena.proofs.view.View.find.Goals as goal
use Rattle.arena.proofs.view.View.find.Goals.{After-start_of-end, in-Taken, in-Types+else-is_joined, in_default}

-- the search at one slot, whose record ends at `end`
reached : (c : After-start_of-end) → Reached c.args.self.draft.now.counts c.args.self.bytes.now c.args.self.slots.now (viewed c.args.self) c.kept_slots-kept.result.now c.loop-place.place c.args.record.now c.loop-place.from c.start_of-end.result
reached c = record { holds = c.args.self.stands; slots_are = c.kept_slots-kept.ensures; before = c.loop-place-test.true; so_far = c.loop-place.invariant; end_is = c.start_of-end.ensures }

pub returns : goal.returns
returns c =
    let m = viewed c.args.self in
    sym (known_end m c.loop-place.place (item_of (state m) c.args.record.now) (subst (λ n. n ≤ c.loop-place.place) (ap length c.kept_slots-kept.ensures ∙ length_layout start m) c.loop-place-test.false)) ∙ c.loop-place.invariant.0

pub loop-place-init : goal.loop-place-init
loop-place-init c = let m = viewed c.args.self in (known_start m (item_of (state m) c.args.record.now) c.args.self.stands.accepted, taking_start m)

pub slice_bounds-is_joined-count : goal.slice_bounds-is_joined-count
slice_bounds-is_joined-count c = from_end (reached (goal.at.slice_bounds-is_joined-count c).After-start_of-end)

pub slice_bounds-is_joined-start : goal.slice_bounds-is_joined-start
slice_bounds-is_joined-start c = from_end (reached (goal.at.slice_bounds-is_joined-start c).After-start_of-end)

pub slice_bounds-is_joined-end : goal.slice_bounds-is_joined-end
slice_bounds-is_joined-end c = begins_within c.args.self.stands _ c.start_of-end.ensures

pub returns-then-is_joined : goal.returns-then-is_joined
returns-then-is_joined c =
    let at = reached (goal.at.returns-then-is_joined c).After-start_of-end in
    let same = same_block at c.requires c.waiting_block-waiting.result.now c.waiting_block-waiting.ensures c.is_joined.result c.is_joined.ensures in
    found_here at _ c.in-Types.is (same ∙ c.if-is_joined.true)

pub loop-place-preserved : goal.loop-place-preserved
loop-place-preserved c =
    let at = reached (goal.at.loop-place-preserved c).After-start_of-end in
    let same = same_block at c.requires c.waiting_block-waiting.result.now c.waiting_block-waiting.ensures in
    elim c.match-slot.branch [
      | in-Taken w ↦ past_joined at _ c.match-slot.from w.from-is w.in-Taken.is
      | in-Types+else-is_joined w ↦ past_type at _ c.match-slot.from w.from-is w.in-Types.is (same w.is_joined.result w.is_joined.ensures ∙ w.if-is_joined.false)
      | in_default w ↦ past_other at _ c.match-slot.from w.from-is w.in_default.not-Taken w.in_default.not-Types
    ]
