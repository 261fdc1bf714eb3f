use Rattle.std.proofs.Common.{refl, sym}
use Rattle.draft.specs.declared.state.SlotTable.TheVariants as table
use Rattle.arena.specs.Viewing.{viewed}
use Rattle.items.specs.Item.{shown}
use Rattle.items.proofs.Whole.{table_is}
use Rattle.valid.proofs.Tables.{is_found, found_is}
use Rattle.valid.proofs.module.Module.override_item.Goals as goal

pub unwrap-requires : goal.unwrap-requires
unwrap-requires c =
    let v = c.args.self.view in
    is_found shown _ _ (sym (table_is table.Overrides refl (viewed v) v.stands.accepted)) c.args.number c.lookup.result c.lookup.ensures c.requires

pub returns : goal.returns
returns c =
    let v = c.args.self.view in
    found_is shown _ _ (sym (table_is table.Overrides refl (viewed v) v.stands.accepted)) c.args.number c.lookup.result c.lookup.ensures c.unwrap.result c.unwrap.ensures
