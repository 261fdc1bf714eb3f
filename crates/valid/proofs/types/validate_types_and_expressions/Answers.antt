use Rattle.std.proofs.Common.{rules, ◌≡◌, ◌+◌, suc, length, drop, sym, ap, ◌∙◌, arith, length-drop}
use Rattle.std.proofs.lemmas.Bool.{some_since}
use Rattle.std.proofs.lemmas.Option.{MatchOption-at_some}
use Rattle.rules.specs.Fault.{first, numbered_from}
use Rattle.rules.specs.Check.{const_expression_tests}
use Rattle.rules.proofs.Firsts.{numbered_passed, numbered_stopped}
use Rattle.items.specs.Item.{shown}
use Rattle.body.specs.Errors.{invalid_handle}
use Rattle.valid.specs.Module.{shown_module}
use Rattle.valid.proofs.Typed.{here_of}
use Rattle.valid.proofs.types.validate_types_and_expressions.Goals as goal

pub unwrap-expression-requires : goal.unwrap-expression-requires
unwrap-expression-requires c =
    let xs = (shown_module c.args.«module»).expressions in
    let n = c.loop-number.number in
    let size : c.args.«module».sizes.expressions ≡ length xs = ap (λ s. s.expressions) c.args.«module».sized in
    let t = c.loop-number-test.true in
    some_since c.next.result _ _ c.next.ensures.steps (λ p. let e = ap length (sym c.loop-number.invariant.0 ∙ p.0) in let d = length-drop n xs in omega arith)

pub loop-number-preserved : goal.loop-number-preserved
loop-number-preserved c =
    let m = shown_module c.args.«module» in
    let n = c.loop-number.number in
    let p = here_of m.expressions n _ _ (shown c.unwrap-expression.result) c.loop-number.invariant.0 (MatchOption-at_some _ _ c.unwrap-expression.result c.unwrap-expression.ensures c.next.ensures.steps) in
    let is = sym c.loop-number.invariant.0 ∙ MatchOption-at_some _ _ c.unwrap-expression.result c.unwrap-expression.ensures c.next.ensures.steps in
    let none = sym (c.in_ok-validate_const_expression_handles.ensures {u = tt}).tested in
    let later : suc n ≡ n + 1 = omega arith in (
      p.1,
      c.loop-number.invariant.1
          ∙ numbered_passed (shown c.unwrap-expression.result) _ _ is (const_expression_tests m) n none
          ∙ ap (λ l. first (numbered_from (const_expression_tests m) (suc n) l)) p.1
          ∙ ap (λ k. first (numbered_from (const_expression_tests m) k (drop (n + 1) m.expressions))) later,
    )

pub returns-in_err-validate_const_expression_handles : goal.returns-in_err-validate_const_expression_handles
returns-in_err-validate_const_expression_handles c =
    let m = shown_module c.args.«module» in
    let is = sym c.loop-number.invariant.0 ∙ MatchOption-at_some _ _ c.unwrap-expression.result c.unwrap-expression.ensures c.next.ensures.steps in
    let some = sym (c.in_err-validate_const_expression_handles.ensures {u = tt}).tested in
    let stop = c.loop-number.invariant.1 ∙ numbered_stopped (shown c.unwrap-expression.result) _ _ is (const_expression_tests m) c.loop-number.number (invalid_handle c.in_err-validate_const_expression_handles.field-0.0) some in
    search rules
