use Rattle.std.proofs.Common.{rules}
use Rattle.rules.specs.Check.{named_tests}
use Rattle.rules.proofs.Firsts.{item_first}
use Rattle.items.specs.Item.{shown}
use Rattle.body.proofs.expressions.check_names.Goals as goal

pub returns-in_err-check_named : goal.returns-in_err-check_named
returns-in_err-check_named c =
    let p = item_first (named_tests c.args.sizes c.args.place c.args.function (shown c.args.item)) c.in-Some.handle _ _ (c.in-Some.ensures {u = tt}).steps in
    let q = c.loop-handle.invariant.2 in
    search rules
