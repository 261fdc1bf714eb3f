use Rattle.std.proofs.Common.{rules, ◌≡◌, ◌+◌, suc, Some, map, sym, ap, ◌∙◌, arith}
use Rattle.std.specs.Iterator.Adapters.{enumerate_source, enumerate_count}
use Rattle.rules.specs.Fault.{first, numbered_from}
use Rattle.rules.specs.Sizes.{sizes as sizes_of}
use Rattle.rules.specs.Check.{body_tests}
use Rattle.rules.proofs.Firsts.{numbered_passed, numbered_stopped}
use Rattle.arena.specs.Viewing.{viewed}
use Rattle.items.specs.Item.{shown, shown_body, items_left}
use Rattle.items.specs.Whole.{body_of}
use Rattle.body.specs.Errors.{invalid_handle}
use Rattle.valid.specs.Module.{shown_module}
use Rattle.valid.proofs.bodies.validate_functions.Goals as goal

pub loop-number-preserved : goal.loop-number-preserved
loop-number-preserved c =
    let m = shown_module c.args.«module» in
    let v = c.args.«module».view in
    let e = c.in-Some.ensures {u = tt} in
    let g = e.goes.on c.loop-number.invariant.1 in
    let s = e.steps in
    let n = enumerate_count c.loop-number.number-iterator in
    let b = body_of (viewed v) (shown c.in-Some.opener) in
    let tests = ap (λ z. first (body_tests z (Some c.in-Some.number) (shown_body c.of-body.result))) c.args.«module».sized ∙ ap (λ x. first (body_tests (sizes_of m) (Some c.in-Some.number) x)) c.of-body.ensures ∙ ap (λ k. first (body_tests (sizes_of m) (Some k) b)) s.1 in
    let none = sym tests ∙ sym (c.in_ok-validate_function.ensures {u = tt}) in
    let later : suc n ≡ n + 1 = omega arith in (
      g.0,
      g.1,
      c.loop-number.invariant.2
          ∙ numbered_passed b _ _ (ap (map (body_of (viewed v))) s.0) (λ f. body_tests (sizes_of m) (Some f)) n none
          ∙ ap (λ k. first (numbered_from (λ f. body_tests (sizes_of m) (Some f)) k (map (body_of (viewed v)) (items_left (enumerate_source c.next.new.self))))) (later ∙ sym s.2),
    )

pub returns-in_err-validate_function : goal.returns-in_err-validate_function
returns-in_err-validate_function c =
    let m = shown_module c.args.«module» in
    let v = c.args.«module».view in
    let s = (c.in-Some.ensures {u = tt}).steps in
    let n = enumerate_count c.loop-number.number-iterator in
    let b = body_of (viewed v) (shown c.in-Some.opener) in
    let tests = ap (λ z. first (body_tests z (Some c.in-Some.number) (shown_body c.of-body.result))) c.args.«module».sized ∙ ap (λ x. first (body_tests (sizes_of m) (Some c.in-Some.number) x)) c.of-body.ensures ∙ ap (λ k. first (body_tests (sizes_of m) (Some k) b)) s.1 in
    let some = sym tests ∙ sym (c.in_err-validate_function.ensures {u = tt}) in
    let stop = c.loop-number.invariant.2 ∙ numbered_stopped b _ _ (ap (map (body_of (viewed v))) s.0) (λ f. body_tests (sizes_of m) (Some f)) n (invalid_handle c.in_err-validate_function.field-0.0) some in
    search rules
