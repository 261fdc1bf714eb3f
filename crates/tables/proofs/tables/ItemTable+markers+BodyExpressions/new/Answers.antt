use Rattle.std.proofs.Common.{map, suc, ap, ◌∙◌, arith}
use Rattle.ir.specs.declared.handle.Table.TheVariants as table
use Rattle.draft.specs.declared.state.SlotTable.TheVariants as slots
use Rattle.items.specs.Item.{items_left}
use Rattle.tables.specs.declared.source.Source.TheVariants as source
use Rattle.tables.specs.Entering.{node_by}
use Rattle.tables.proofs.InAll.{handles_in_all}
use Rattle.tables.proofs.tables.ItemTable+markers+BodyExpressions.new.Goals as goal

pub of-requires : goal.of-requires
of-requires c =
    let b = c.args.body in
    let v = b.view in
    omega (arith, handles_in_all v table.Expressions slots.LocalExpressions (λ e. absurd cc) (suc b.opener.place) b.end (items_left c.items.result) c.items.ensures)

pub returns : goal.returns
returns c = c.of.ensures ∙ ap (map (node_by (source.Handles table.Expressions))) c.items.ensures
