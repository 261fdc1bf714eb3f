use Rattle.std.proofs.Common.{sym, ap, ◌∙◌, arith}
use Rattle.std.proofs.lemmas.Option.{same_Some}
use Rattle.arena.specs.Viewing.{viewed}
use Rattle.arena.proofs.Placing.{kept_is, kept_within}
use Rattle.items.specs.Between.{item_at}
use Rattle.items.proofs.Splitting.{shown_at, sound_at}
use Rattle.items.proofs.lookup.item_at.Goals as goal

pub invariant_of-result : goal.invariant_of-result
invariant_of-result c =
    let v = c.args.view in
    let k = kept_is v.stands in
    let w = kept_within v.stands in
    let r = c.ranges.view in
    let q = c.requires in
    record { fits = omega (arith, r); sound = sound_at (viewed v) c.args.place c.entry_at-entry.result.«record».bytes.now v.stands.accepted c.entry_at-entry.ensures.has }

pub returns : goal.returns
returns c = λ bytes e.
    let v = c.args.view in
    sym (shown_at (viewed v) c.args.place c.entry_at-entry.result.«record».bytes.now c.new.result.rest.now v.stands.accepted (c.new.ensures.rest ∙ c.waiting_at.ensures))
    ∙ ap (item_at (viewed v) c.args.place) (same_Some _ bytes (sym c.entry_at-entry.ensures.has ∙ e))
