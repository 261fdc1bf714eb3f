use Rattle.std.proofs.Common.{refl, sym}
use Rattle.draft.specs.declared.state.SlotTable.TheVariants as slots
use Rattle.arena.specs.Viewing.{viewed}
use Rattle.items.specs.Item.{shown}
use Rattle.items.proofs.Whole.{table_is}
use Rattle.seal.proofs.Named.{found_listed}
use Rattle.seal.proofs.sizes.override_of.Goals as goal

pub returns : goal.returns
returns c =
    let v = c.args.«module».view in
    found_listed shown _ _ (sym (table_is slots.Overrides refl (viewed v) v.stands.accepted)) c.in_ok-number.number _ (c.in_ok-number.ensures {u = tt}) c.lookup.result c.lookup.ensures
