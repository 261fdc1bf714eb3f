use Rattle.std.proofs.Common.{◌≡◌, length, inl, ap, ◌∙◌, arith}
use Rattle.items.specs.Item.{shown_body}
use Rattle.items.proofs.Left.{left_few, left_counted}
use Rattle.body.proofs.function.inner_sizes.Goals as goal

pub count-local_variables-requires-clause-fits : goal.count-local_variables-requires-clause-fits
count-local_variables-requires-clause-fits c = inl (omega (arith, left_few c.items.result))

pub count-expressions-requires-clause-fits : goal.count-expressions-requires-clause-fits
count-expressions-requires-clause-fits c = inl (omega (arith, left_few c.items-2.result))

pub returns : goal.returns
returns c =
    let b = shown_body c.args.body in
    let locals : c.count-local_variables.result ≡ length b.locals = left_counted c.items.result c.count-local_variables.result c.count-local_variables.ensures.ran ∙ ap length c.items.ensures in
    let expressions : c.count-expressions.result ≡ length b.expressions = left_counted c.items-2.result c.count-expressions.result c.count-expressions.ensures.ran ∙ ap length c.items-2.ensures in
    cc
