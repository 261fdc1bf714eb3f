use Rattle.std.proofs.Common.{rules, sym, ap, ◌∙◌}
use Rattle.std.specs.List.{flat_map}
use Rattle.rules.specs.Fault.{first}
use Rattle.rules.proofs.Firsts.{item_passed, item_stopped}
use Rattle.items.specs.Item.{shown, shown_body}
use Rattle.sealing.specs.Seal.{compare_tests}
use Rattle.seal.specs.Breach.{breached}
use Rattle.seal.proofs.bodies.seal_statements.Goals as goal

pub loop-statement-preserved : goal.loop-statement-preserved
loop-statement-preserved c =
    let none = sym (c.in_ok-seal_compare.ensures {u = tt}) in
    (tt, tt, c.loop-statement.invariant.2 ∙ item_passed (shown c.in-Some.statement) _ _ (c.in-Some.ensures {u = tt}).steps (compare_tests c.inner_sizes-inner.result) none)

pub returns-in_err-seal_compare : goal.returns-in_err-seal_compare
returns-in_err-seal_compare c =
    let b = shown_body c.args.body in
    let e = c.in_err-seal_compare.field-0.0 in
    let some = sym (c.in_err-seal_compare.ensures {u = tt}) in
    let stop = c.loop-statement.invariant.2 ∙ item_stopped (shown c.in-Some.statement) _ _ (c.in-Some.ensures {u = tt}).steps (compare_tests c.inner_sizes-inner.result) (breached e) some in
    let all = ap (λ s. first (flat_map (compare_tests s) b.statements)) c.inner_sizes-inner.ensures in
    search rules
