use Rattle.std.proofs.Common.{length, arith}
use Rattle.ir.specs.declared.handle.Table.TheVariants as table
use Rattle.draft.specs.declared.state.SlotTable.TheVariants as slots
use Rattle.arena.specs.Viewing.{viewed}
use Rattle.items.specs.Item.{items_left}
use Rattle.tables.proofs.InAll.{handles_in_all}
use Rattle.tables.proofs.tables.ItemTable+markers+Filters.new.Goals as goal

pub of-requires : goal.of-requires
of-requires c =
    let v = c.args.view in
    omega (arith, handles_in_all v table.Filters slots.Filters (λ e. absurd cc) 0 (length (viewed v)) (items_left c.numbered.result) c.numbered.ensures)
