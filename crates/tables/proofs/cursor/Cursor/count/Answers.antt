use Rattle.std.proofs.Common.{sym, ◌∙◌, inl, arith}
use Rattle.std.proofs.lemmas.List.{length-map}
use Rattle.items.specs.Item.{items_left}
use Rattle.items.proofs.Left.{left_few, left_counted}
use Rattle.tables.specs.Entering.{node_by}
use Rattle.tables.proofs.cursor.Cursor.count.Goals as goal

pub count-requires-clause-fits : goal.count-requires-clause-fits
count-requires-clause-fits c = inl (omega (arith, left_few c.args.self.all))

pub returns : goal.returns
returns c = left_counted c.args.self.all c.count.result c.count.ensures.ran ∙ sym (length-map (items_left c.args.self.all) (node_by c.args.self.source))
