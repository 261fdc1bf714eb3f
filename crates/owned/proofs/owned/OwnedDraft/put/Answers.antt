use Rattle.std.proofs.Common.{◌≡◌, true, is_ok, ap, ◌∙◌}
use Rattle.arena.specs.Memory.{records}
use Rattle.owned.specs.Kept.{kept_in}
use Rattle.owned.specs.Putting.{put_all}
use Rattle.owned.proofs.Putting.{Refilled, refilled_is, put_made, refused_so}
use Rattle.owned.proofs.owned.OwnedDraft.put.Goals as goal
use Rattle.owned.proofs.owned.OwnedDraft.put.Goals.{After-put}

pub put-requires : goal.put-requires
put-requires c =
    let b = c.as_mut_slice.ensures.value in
    let s = c.as_mut_slice-2.ensures.value in
    simp (b, s) c.make_room.new.self.stands

-- the lent memory comes back as put left it
back : (c : After-put) → Refilled c.make_room.new.self.bytes c.put.new.bytes × Refilled c.make_room.new.self.slots c.put.new.slots
back c =
    let w = c.make_room.new.self in (
      refilled_is w.bytes c.as_mut_slice.result.now c.put.new.bytes c.as_mut_slice.ensures.value c.put.auto.bytes,
      refilled_is w.slots c.as_mut_slice-2.result.now c.put.new.slots c.as_mut_slice-2.ensures.value c.put.auto.slots,
    )

made : (c : After-put) → let p = put_all (kept_in c.args.self.now) c.args.record.now in (p.0 ≡ c.put.result) × (records c.put.new.self c.put.new.bytes c.put.new.slots ≡ p.1)
made c =
    let ok : is_ok c.make_room.result ≡ true = ap is_ok c.in_ok-make_room.was in
    put_made c.make_room.new.self (kept_in c.args.self.now) c.args.record.now c.as_mut_slice.ensures.value c.as_mut_slice-2.ensures.value c.make_room.ensures.keeps (c.make_room.ensures.bytes ok) (c.make_room.ensures.slots ok) c.put.ensures.kept

pub invariant_of-self : goal.invariant_of-self
invariant_of-self c =
    let e = back (goal.at.invariant_of-self c).After-put in
    simp (e.0, e.1) (record { stands = c.put.ensures.kept.stands })

pub returns-in_err-answer : goal.returns-in_err-answer
returns-in_err-answer c =
    let at = (goal.at.returns-in_err-answer c).After-put in
    let e = back at in
    let p = made at in
    refused_so c.from_residual-in_err-answer.result c.in_err-answer.field-0.0 (put_all (kept_in c.args.self.now) c.args.record.now) (kept_in c.args.self.now) _ c.from_residual-in_err-answer.ensures.1 (p.0 ∙ c.in_err-answer.was) (simp (e.0, e.1) p.1)

pub returns : goal.returns
returns c =
    let at = (goal.at.returns c).After-put in
    let e = back at in
    let p = made at in
    (p.0 ∙ c.in_ok-answer.was, simp (e.0, e.1) p.1)
