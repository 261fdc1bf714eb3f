use Rattle.std.proofs.Common.{rules, sym, ap, ◌∙◌}
use Rattle.rules.specs.declared.faults.Rule.TheVariants as rule
use Rattle.rules.specs.Fault.{first, all_inside, own_inside}
use Rattle.rules.proofs.Firsts.{item_passed, item_stopped}
use Rattle.items.specs.Item.{shown}
use Rattle.body.specs.Errors.{bad_handle}
use Rattle.body.proofs.inside.check_own.Goals as goal

pub loop-item-preserved : goal.loop-item-preserved
loop-item-preserved c =
    let none = ap (λ l. first (all_inside rule.Inside c.args.sizes c.in-Some.item.place l)) (sym c.handles.ensures) ∙ sym (c.in_ok-check_handles.ensures {u = tt}) in
    (tt, tt, c.loop-item.invariant.2 ∙ item_passed (shown c.in-Some.item) _ _ (c.in-Some.ensures {u = tt}).steps (own_inside rule.Inside c.args.sizes) none)

pub returns-in_err-check_handles : goal.returns-in_err-check_handles
returns-in_err-check_handles c =
    let e = c.in_err-check_handles.field-0.0 in
    let some = ap (λ l. first (all_inside rule.Inside c.args.sizes c.in-Some.item.place l)) (sym c.handles.ensures) ∙ sym (c.in_err-check_handles.ensures {u = tt}) in
    let stop = c.loop-item.invariant.2 ∙ item_stopped (shown c.in-Some.item) _ _ (c.in-Some.ensures {u = tt}).steps (own_inside rule.Inside c.args.sizes) (bad_handle e) some in
    search rules
