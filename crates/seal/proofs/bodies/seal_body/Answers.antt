use Rattle.std.proofs.Common.{rules, ◌≡◌, length, inl, sym, ap, ◌∙◌, arith}
use Rattle.std.specs.List.{flat_map}
use Rattle.rules.specs.Fault.{first}
use Rattle.rules.proofs.Firsts.{item_passed, item_stopped}
use Rattle.items.specs.Item.{shown, shown_body}
use Rattle.items.proofs.Left.{left_few, left_counted}
use Rattle.sealing.specs.Seal.{inner_tests}
use Rattle.seal.specs.Breach.{breached}
use Rattle.seal.proofs.bodies.seal_body.Goals as goal
use Rattle.seal.proofs.bodies.seal_body.Goals.{After-count-count}

-- the arguments are counted
counted : (c : After-count-count) → c.count-count.result ≡ length (shown_body c.args.body).arguments
counted c = left_counted c.items.result c.count-count.result c.count-count.ensures.ran ∙ ap length c.items.ensures

pub count-count-requires-clause-fits : goal.count-count-requires-clause-fits
count-count-requires-clause-fits c = inl (omega (arith, left_few c.items.result))

pub loop-expression-preserved : goal.loop-expression-preserved
loop-expression-preserved c =
    let none = sym (c.in_ok-seal_inner.ensures {u = tt}) in
    (tt, tt, c.loop-expression.invariant.2 ∙ item_passed (shown c.in-Some.expression) _ _ (c.in-Some.ensures {u = tt}).steps (inner_tests c.args.sizes c.count-count.result) none)

pub returns-in_err-seal_inner : goal.returns-in_err-seal_inner
returns-in_err-seal_inner c =
    let b = shown_body c.args.body in
    let e = c.in_err-seal_inner.field-0.0 in
    let some = sym (c.in_err-seal_inner.ensures {u = tt}) in
    let stop = c.loop-expression.invariant.2 ∙ item_stopped (shown c.in-Some.expression) _ _ (c.in-Some.ensures {u = tt}).steps (inner_tests c.args.sizes c.count-count.result) (breached e) some in
    let all = ap (λ n. first (flat_map (inner_tests c.args.sizes n) b.expressions)) (counted (goal.at.returns-in_err-seal_inner c).After-count-count) in
    search rules
