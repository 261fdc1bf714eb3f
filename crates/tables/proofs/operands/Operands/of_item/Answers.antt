use Rattle.std.proofs.Common.{◌++◌, length, ap, arith}
use Rattle.std.specs.List.{flat_map}
use Rattle.records.specs.Handles.{handles_of}
use Rattle.records.specs.Image.{split}
use Rattle.records.proofs.Cutting.{joined_split}
use Rattle.rules.specs.Items.{numbers}
use Rattle.items.specs.Item.{shown}
use Rattle.tables.proofs.Weighing.{item_few}
use Rattle.tables.proofs.operands.Operands.of_item.Goals as goal

pub returns-clause-gives : goal.returns-clause-gives
returns-clause-gives c = ap (λ hs. numbers c.args.table (hs ++ flat_map handles_of (split c.args.item.taken.rest.now))) c.handles.ensures

pub returns-clause-few : goal.returns-clause-few
returns-clause-few c =
    let i = c.args.item in
    omega (arith, item_few c.args.table (shown i), ap length (joined_split i.taken.rest.now), ap length (returns-clause-gives c))
