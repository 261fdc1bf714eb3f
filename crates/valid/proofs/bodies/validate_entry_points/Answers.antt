use Rattle.std.proofs.Common.{rules, map, sym, ap, ◌∙◌}
use Rattle.rules.specs.Fault.{first}
use Rattle.rules.specs.Sizes.{sizes as sizes_of}
use Rattle.rules.specs.Check.{entry_tests}
use Rattle.rules.proofs.Firsts.{item_passed, item_stopped}
use Rattle.arena.specs.Viewing.{viewed}
use Rattle.items.specs.Item.{shown, shown_body}
use Rattle.items.specs.Whole.{body_of}
use Rattle.body.specs.Errors.{invalid_handle}
use Rattle.valid.specs.Module.{shown_module}
use Rattle.valid.proofs.bodies.validate_entry_points.Goals as goal

pub loop-opener-preserved : goal.loop-opener-preserved
loop-opener-preserved c =
    let v = c.args.«module».view in
    let tests = ap (λ s. first (entry_tests s (shown_body c.of.result))) c.args.«module».sized ∙ ap (λ b. first (entry_tests (sizes_of (shown_module c.args.«module»)) b)) c.of.ensures in
    let none = sym tests ∙ sym (c.in_ok-validate_entry_point.ensures {u = tt}) in
    (tt, tt, c.loop-opener.invariant.2 ∙ item_passed (body_of (viewed v) (shown c.in-Some.opener)) _ _ (ap (map (body_of (viewed v))) (c.in-Some.ensures {u = tt}).steps) (entry_tests (sizes_of (shown_module c.args.«module»))) none)

pub returns-in_err-validate_entry_point : goal.returns-in_err-validate_entry_point
returns-in_err-validate_entry_point c =
    let v = c.args.«module».view in
    let tests = ap (λ s. first (entry_tests s (shown_body c.of.result))) c.args.«module».sized ∙ ap (λ b. first (entry_tests (sizes_of (shown_module c.args.«module»)) b)) c.of.ensures in
    let some = sym tests ∙ sym (c.in_err-validate_entry_point.ensures {u = tt}) in
    let stop = c.loop-opener.invariant.2 ∙ item_stopped (body_of (viewed v) (shown c.in-Some.opener)) _ _ (ap (map (body_of (viewed v))) (c.in-Some.ensures {u = tt}).steps) (entry_tests (sizes_of (shown_module c.args.«module»))) (invalid_handle c.in_err-validate_entry_point.field-0.0) some in
    search rules
