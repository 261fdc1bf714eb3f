use Rattle.std.proofs.Common.{map, ap, ◌∙◌, arith}
use Rattle.items.specs.Whole.{items_of}
use Rattle.items.specs.declared.section.Section.TheVariants.{Numbered}
use Rattle.draft.specs.declared.state.SlotTable.TheVariants as slots
use Rattle.arena.specs.Viewing.{viewed}
use Rattle.tables.specs.declared.source.Source.TheVariants as source
use Rattle.tables.specs.Entering.{node_by}
use Rattle.items.specs.Item.{items_left}
use Rattle.tables.proofs.Bodies.{functions_so}
use Rattle.tables.proofs.InAll.{calls_in_all}
use Rattle.tables.proofs.tables.ItemTable+markers+Functions.new.Goals as goal

pub of-requires : goal.of-requires
of-requires c =
    let v = c.args.view in
    omega (arith, calls_in_all v (items_left c.numbered.result) c.numbered.ensures)

pub returns : goal.returns
returns c =
    let v = c.args.view in
    c.of.ensures ∙ ap (map (node_by (source.Calls v))) c.numbered.ensures ∙ functions_so v (items_of (Numbered slots.Functions) (viewed v))
