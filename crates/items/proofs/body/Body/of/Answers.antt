use Rattle.std.proofs.Common.{◌≡◌, suc, ◌+◌, ap, ◌∙◌, arith}
use Rattle.arena.specs.Viewing.{viewed}
use Rattle.items.specs.Item.{shown}
use Rattle.items.specs.Whole.{ending_from, body_until}
use Rattle.items.proofs.body.Body.of.Goals as goal

pub returns : goal.returns
returns c =
    let next : c.args.opener.place + 1 ≡ suc c.args.opener.place = omega arith in
    ap (body_until (viewed c.args.view) (shown c.args.opener)) (c.ending_from.ensures ∙ ap (ending_from (viewed c.args.view)) next)
