use Rattle.std.proofs.Common.{◌≡◌, suc, ◌+◌, ap, ◌∙◌, arith}
use Rattle.arena.specs.Viewing.{viewed}
use Rattle.items.specs.Between.{items_between}
use Rattle.items.proofs.body.Body.items.Goals as goal

pub returns : goal.returns
returns c =
    let next : c.args.self.opener.place + 1 ≡ suc c.args.self.opener.place = omega arith in
    c.between.ensures ∙ ap (λ p. items_between c.args.section (viewed c.args.self.view) p c.args.self.end) next
