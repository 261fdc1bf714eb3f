use Rattle.std.proofs.Common.{rules, map, sym, ap, ◌∙◌}
use Rattle.rules.specs.Fault.{first}
use Rattle.rules.specs.Sizes.{sizes as sizes_of}
use Rattle.rules.proofs.Firsts.{item_passed, item_stopped}
use Rattle.arena.specs.Viewing.{viewed}
use Rattle.items.specs.Item.{shown, shown_body}
use Rattle.items.specs.Whole.{body_of}
use Rattle.valid.specs.Module.{shown_module}
use Rattle.sealing.specs.Seal.{body_tests}
use Rattle.seal.specs.Breach.{breached}
use Rattle.seal.proofs.bodies.seal_bodies.Goals as goal

pub loop-opener-preserved : goal.loop-opener-preserved
loop-opener-preserved c =
    let v = c.args.«module».view in
    let tests = ap (λ s. first (body_tests s (shown_body c.of.result))) c.args.«module».sized ∙ ap (λ b. first (body_tests (sizes_of (shown_module c.args.«module»)) b)) c.of.ensures in
    let none = sym tests ∙ sym (c.in_ok-seal_body.ensures {u = tt}) in
    (tt, tt, c.loop-opener.invariant.2 ∙ item_passed (body_of (viewed v) (shown c.in-Some.opener)) _ _ (ap (map (body_of (viewed v))) (c.in-Some.ensures {u = tt}).steps) (body_tests (sizes_of (shown_module c.args.«module»))) none)

pub returns-in_err-seal_body : goal.returns-in_err-seal_body
returns-in_err-seal_body c =
    let v = c.args.«module».view in
    let tests = ap (λ s. first (body_tests s (shown_body c.of.result))) c.args.«module».sized ∙ ap (λ b. first (body_tests (sizes_of (shown_module c.args.«module»)) b)) c.of.ensures in
    let some = sym tests ∙ sym (c.in_err-seal_body.ensures {u = tt}) in
    let stop = c.loop-opener.invariant.2 ∙ item_stopped (body_of (viewed v) (shown c.in-Some.opener)) _ _ (ap (map (body_of (viewed v))) (c.in-Some.ensures {u = tt}).steps) (body_tests (sizes_of (shown_module c.args.«module»))) (breached c.in_err-seal_body.field-0.0) some in
    search rules
