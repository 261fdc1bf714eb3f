use Rattle.std.proofs.Common.{[], take, sym, ap, ◌∙◌}
use Rattle.std.proofs.lemmas.Option.{get_or_from_slice_get, MatchOption-at_some, same_Some}
use Rattle.std.specs.Option.{is_some}
use Rattle.draft.specs.State.{state}
use Rattle.arena.specs.Memory.{slot_of}
use Rattle.arena.specs.Viewing.{viewed}
use Rattle.arena.proofs.Scanning.{slot_at}
use Rattle.items.proofs.entry.entry_at.Goals as goal

pub unwrap-slot-requires : goal.unwrap-slot-requires
unwrap-slot-requires c = ap is_some (c.slot.ensures ∙ slot_at (viewed c.args.view) c.args.place c.requires)

pub returns : goal.returns
returns c =
    let m = viewed c.args.view in
    let has = MatchOption-at_some _ _ _ c.unwrap-bytes.ensures c.record.ensures in
    record {
      has = has;
      slot_is =
          same_Some _ _ (sym c.unwrap-slot.ensures ∙ c.slot.ensures ∙ slot_at m c.args.place c.requires)
          ∙ ap (slot_of (state (take c.args.place m))) (get_or_from_slice_get m c.args.place _ [] has);
    }
