use Rattle.std.proofs.Common.{rules, map, sym, ap, ◌∙◌}
use Rattle.rules.specs.Fault.{first}
use Rattle.rules.specs.Sizes.{sizes as sizes_of}
use Rattle.rules.proofs.Firsts.{item_passed, item_stopped}
use Rattle.arena.specs.Viewing.{viewed}
use Rattle.items.specs.Item.{shown}
use Rattle.items.specs.Whole.{body_of}
use Rattle.valid.specs.Module.{shown_module}
use Rattle.sealing.specs.Seal.{payload_tests}
use Rattle.seal.specs.Breach.{breached}
use Rattle.seal.proofs.others.seal_payloads.Goals as goal

pub loop-opener-preserved : goal.loop-opener-preserved
loop-opener-preserved c =
    let v = c.args.«module».view in
    let b = body_of (viewed v) (shown c.in-Some.opener) in
    let tests = ap (λ s. first (payload_tests s b)) c.args.«module».sized in
    let none = sym tests ∙ sym (c.in_ok-seal_fields.ensures {u = tt}) in
    (tt, tt, c.loop-opener.invariant.2 ∙ item_passed b _ _ (ap (map (body_of (viewed v))) (c.in-Some.ensures {u = tt}).steps) (payload_tests (sizes_of (shown_module c.args.«module»))) none)

pub returns-in_err-seal_fields : goal.returns-in_err-seal_fields
returns-in_err-seal_fields c =
    let v = c.args.«module».view in
    let b = body_of (viewed v) (shown c.in-Some.opener) in
    let tests = ap (λ s. first (payload_tests s b)) c.args.«module».sized in
    let some = sym tests ∙ sym (c.in_err-seal_fields.ensures {u = tt}) in
    let stop = c.loop-opener.invariant.2 ∙ item_stopped b _ _ (ap (map (body_of (viewed v))) (c.in-Some.ensures {u = tt}).steps) (payload_tests (sizes_of (shown_module c.args.«module»))) (breached c.in_err-seal_fields.field-0.0) some in
    search rules
