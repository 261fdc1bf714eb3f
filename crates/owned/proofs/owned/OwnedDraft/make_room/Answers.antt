use Rattle.std.proofs.Common.{is_ok, ap, arith}
use Rattle.arena.proofs.Placing.{used_is, kept_is, kept_within, records_are, stands_now}
use Rattle.owned.proofs.Holding.{more_bytes, more_slots}
use Rattle.owned.proofs.Growing.{not_both}
use Rattle.owned.proofs.owned.OwnedDraft.make_room.Goals as goal

pub invariant_of-self : goal.invariant_of-self
invariant_of-self c =
    record { stands = stands_now (more_bytes c.args.self.now.stands _ c.grow.ensures.added) }

pub returns-in_err-grow : goal.returns-in_err-grow
returns-in_err-grow c = record {
  keeps = records_are (more_bytes c.args.self.now.stands _ c.grow.ensures.added);
  bytes = λ ok. absurd (not_both c.from_residual.result ok c.from_residual.ensures.0);
  slots = λ ok. absurd (not_both c.from_residual.result ok c.from_residual.ensures.0);
}

pub overflow_add-counts : goal.overflow_add-counts
overflow_add-counts c =
    let w = c.args.self.now in
    let k = kept_within w.stands in
    let e = ap (λ x. x.kept) c.counts-counts.ensures.value in
    let l = w.slots.ok in
    let s = w.slots.small in
    omega arith

pub invariant_of-self-2 : goal.invariant_of-self-2
invariant_of-self-2 c =
    record { stands = stands_now (more_slots (more_bytes c.args.self.now.stands _ c.grow.ensures.added) _ c.grow-2.ensures.added) }

pub returns : goal.returns
returns c = record {
  keeps = records_are (more_slots (more_bytes c.args.self.now.stands _ c.grow.ensures.added) _ c.grow-2.ensures.added);
  bytes = λ ok.
      let u = used_is c.args.self.now.stands in
      let e = ap (λ x. x.used) c.counts-counts.ensures.value in
      let large = c.grow.ensures.enough (ap is_ok c.in_ok-grow.was) in
      let l = c.grow.new.items.ok in
      let s = c.grow.new.items.small in
      omega arith;
  slots = λ ok.
      let k = kept_is c.args.self.now.stands in
      let e = ap (λ x. x.kept) c.counts-counts.ensures.value in
      let many = c.grow-2.ensures.enough ok in
      omega arith;
}
