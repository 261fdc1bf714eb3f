use Rattle.std.proofs.Common.{rules, ◌≡◌, ◌+◌, suc, drop, sym, ap, ◌∙◌, arith}
use Rattle.std.specs.Iterator.Adapters.{enumerate_source, enumerate_count}
use Rattle.std.specs.List.{slice_get}
use Rattle.rules.specs.Fault.{first}
use Rattle.rules.specs.Once.{types_once, type_once}
use Rattle.items.specs.Item.{shown, items_left}
use Rattle.body.specs.Errors.{invalid_handle}
use Rattle.valid.specs.Module.{shown_module}
use Rattle.valid.proofs.Typed.{here_of, type_passed, type_stopped}
use Rattle.valid.proofs.types.validate_types.Goals as goal

pub validate_type-requires-clause-here : goal.validate_type-requires-clause-here
validate_type-requires-clause-here c =
    let s = (c.in-Some.ensures {u = tt}).steps in
    let p = here_of (shown_module c.args.«module»).types (enumerate_count c.loop-number.number-iterator) _ _ (shown c.in-Some.ty) c.loop-number.invariant.4 s.0 in
    ap (slice_get (shown_module c.args.«module»).types) s.1 ∙ p.0

pub loop-number-preserved : goal.loop-number-preserved
loop-number-preserved c =
    let m = shown_module c.args.«module» in
    let e = c.in-Some.ensures {u = tt} in
    let g = e.goes.on c.loop-number.invariant.1 in
    let s = e.steps in
    let n = enumerate_count c.loop-number.number-iterator in
    let p = here_of m.types n _ _ (shown c.in-Some.ty) c.loop-number.invariant.4 s.0 in
    let after = (c.in_ok-validate_type.ensures {u = tt}).after in
    let none = ap (λ k. first (type_once m c.loop-number.rest.first k (shown c.in-Some.ty))) (sym s.1) ∙ sym (c.in_ok-validate_type.ensures {u = tt}).tested in
    let later : suc n ≡ n + 1 = omega arith in (
      g.0,
      g.1,
      c.validate_type.ensures.same ∙ c.loop-number.invariant.2,
      after.0,
      p.1 ∙ ap (λ k. drop k m.types) (sym s.2),
      c.loop-number.invariant.5 ∙ type_passed m c.loop-number.rest.first n (shown c.in-Some.ty) _ _ s.0 none
          ∙ ap (λ k. first (types_once m k (suc n) (items_left (enumerate_source c.next.new.self)))) (sym after.1)
          ∙ ap (λ k. first (types_once m c.validate_type.new.rest.first k (items_left (enumerate_source c.next.new.self)))) (later ∙ sym s.2),
    )

pub returns-in_err-validate_type : goal.returns-in_err-validate_type
returns-in_err-validate_type c =
    let m = shown_module c.args.«module» in
    let s = (c.in-Some.ensures {u = tt}).steps in
    let n = enumerate_count c.loop-number.number-iterator in
    let some = ap (λ k. first (type_once m c.loop-number.rest.first k (shown c.in-Some.ty))) (sym s.1) ∙ sym (c.in_err-validate_type.ensures {u = tt}).tested in
    let stop = c.loop-number.invariant.5 ∙ type_stopped m c.loop-number.rest.first n (shown c.in-Some.ty) _ _ s.0 (invalid_handle c.in_err-validate_type.field-0.0) some in
    search rules
