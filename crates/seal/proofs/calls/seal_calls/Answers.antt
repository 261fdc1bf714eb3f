use Rattle.std.proofs.Common.{rules, ◌≡◌, ◌+◌, suc, map, drop, sym, ap, ◌∙◌, arith}
use Rattle.std.specs.Iterator.Adapters.{enumerate_source, enumerate_count}
use Rattle.std.specs.List.{slice_get}
use Rattle.rules.specs.Fault.{first, numbered_from}
use Rattle.rules.proofs.Firsts.{numbered_passed, numbered_stopped}
use Rattle.arena.specs.Viewing.{viewed}
use Rattle.items.specs.Item.{shown, items_left}
use Rattle.items.specs.Whole.{body_of}
use Rattle.tables.specs.Cursor.{table_nodes}
use Rattle.valid.specs.Module.{shown_module}
use Rattle.valid.proofs.Typed.{here_of}
use Rattle.sealing.specs.Seal.{call_tests}
use Rattle.seal.specs.Breach.{breached}
use Rattle.seal.proofs.Calling.{calls_told}
use Rattle.seal.proofs.calls.seal_calls.Goals as goal

pub loop-number-preserved : goal.loop-number-preserved
loop-number-preserved c =
    let m = shown_module c.args.«module» in
    let v = c.args.«module».view in
    let e = c.in-Some.ensures {u = tt} in
    let g = e.goes.on c.loop-number.invariant.1 in
    let s = e.steps in
    let n = enumerate_count c.loop-number.number-iterator in
    let b = body_of (viewed v) (shown c.in-Some.opener) in
    let next = ap (map (body_of (viewed v))) s.0 in
    let p = here_of m.functions n _ _ b c.loop-number.invariant.3 next in
    let here = ap (slice_get m.functions) s.1 ∙ p.0 in
    let tests = calls_told m.functions (table_nodes c.loop-number.functions) c.loop-number.invariant.2 c.in-Some.number b here (c.requires c.in-Some.number b here) in
    let none = ap (λ k. first (call_tests k b)) (sym s.1) ∙ sym tests ∙ sym (c.in_ok-seal_operands.ensures {u = tt}).tested in
    let later : suc n ≡ n + 1 = omega arith in (
      g.0,
      g.1,
      c.seal_operands.ensures.same ∙ c.loop-number.invariant.2,
      p.1 ∙ ap (λ k. drop k m.functions) (sym s.2),
      c.loop-number.invariant.4
          ∙ numbered_passed b _ _ next call_tests n none
          ∙ ap (λ k. first (numbered_from call_tests k (map (body_of (viewed v)) (items_left (enumerate_source c.next.new.self))))) (later ∙ sym s.2),
    )

pub returns-in_err-seal_operands : goal.returns-in_err-seal_operands
returns-in_err-seal_operands c =
    let m = shown_module c.args.«module» in
    let v = c.args.«module».view in
    let s = (c.in-Some.ensures {u = tt}).steps in
    let n = enumerate_count c.loop-number.number-iterator in
    let b = body_of (viewed v) (shown c.in-Some.opener) in
    let next = ap (map (body_of (viewed v))) s.0 in
    let p = here_of m.functions n _ _ b c.loop-number.invariant.3 next in
    let here = ap (slice_get m.functions) s.1 ∙ p.0 in
    let tests = calls_told m.functions (table_nodes c.loop-number.functions) c.loop-number.invariant.2 c.in-Some.number b here (c.requires c.in-Some.number b here) in
    let some = ap (λ k. first (call_tests k b)) (sym s.1) ∙ sym tests ∙ sym (c.in_err-seal_operands.ensures {u = tt}).tested in
    let stop = c.loop-number.invariant.4 ∙ numbered_stopped b _ _ next call_tests n (breached c.in_err-seal_operands.field-0.0) some in
    search rules
