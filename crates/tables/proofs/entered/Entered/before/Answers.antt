use Rattle.std.proofs.Common.{◌+◌, ◌-◌, ◌≡◌, drop, ap, ◌∙◌, arith}
use Rattle.std.proofs.lemmas.List.{drop-drop}
use Rattle.tables.specs.Operands.{operands_left}
use Rattle.tables.proofs.entered.Entered.before.Goals as goal

pub returns-else-place-self : goal.returns-else-place-self
returns-else-place-self c =
    let e = c.args.self in
    let on : e.passed + (c.args.place - e.passed) ≡ c.args.place = omega arith in
    ap (drop (c.args.place - e.passed)) e.behind
    ∙ drop-drop (c.args.place - e.passed) e.passed (operands_left e.operands)
    ∙ ap (λ n. drop n (operands_left e.operands)) on
