use Rattle.std.proofs.Common.{rules, ◌≡◌, ◌+◌, suc, drop, sym, ap, ◌∙◌, arith}
use Rattle.std.specs.Iterator.Adapters.{enumerate_source, enumerate_count}
use Rattle.std.specs.List.{slice_get}
use Rattle.ir.specs.declared.handle.Table.TheVariants as table
use Rattle.rules.specs.Fault.{first, numbered_from}
use Rattle.rules.specs.Sizes.{sizes as sizes_of}
use Rattle.rules.proofs.Firsts.{numbered_passed, numbered_stopped}
use Rattle.items.specs.Item.{shown, items_left}
use Rattle.node.specs.Nodes.{operands_at}
use Rattle.valid.specs.Module.{shown_module}
use Rattle.valid.proofs.Typed.{operands_are, here_of}
use Rattle.sealing.specs.Seal.{global_tests}
use Rattle.seal.specs.Breach.{breached}
use Rattle.seal.proofs.globals.seal_globals.Goals as goal

pub seal_global-requires : goal.seal_global-requires
seal_global-requires c =
    let all = (shown_module c.args.«module»).expressions in
    let i = shown c.in-Some.expression in
    let s = (c.in-Some.ensures {u = tt}).steps in
    let p = here_of all (enumerate_count c.loop-number.number-iterator) _ _ i c.loop-number.invariant.3 s.0 in
    ap (λ ns. operands_at ns c.in-Some.number) c.loop-number.invariant.2 ∙ operands_are table.Expressions all c.in-Some.number i (ap (slice_get all) s.1 ∙ p.0)

pub loop-number-preserved : goal.loop-number-preserved
loop-number-preserved c =
    let m = shown_module c.args.«module» in
    let e = c.in-Some.ensures {u = tt} in
    let g = e.goes.on c.loop-number.invariant.1 in
    let s = e.steps in
    let i = shown c.in-Some.expression in
    let n = enumerate_count c.loop-number.number-iterator in
    let p = here_of m.expressions n _ _ i c.loop-number.invariant.3 s.0 in
    let tests = ap (λ z. first (global_tests z c.in-Some.number i)) c.args.«module».sized ∙ ap (λ k. first (global_tests (sizes_of m) k i)) s.1 in
    let none = sym tests ∙ sym (c.in_ok-seal_global.ensures {u = tt}).tested in
    let later : suc n ≡ n + 1 = omega arith in (
      g.0,
      g.1,
      c.seal_global.ensures.same ∙ c.loop-number.invariant.2,
      p.1 ∙ ap (λ k. drop k m.expressions) (sym s.2),
      c.loop-number.invariant.4
          ∙ numbered_passed i _ _ s.0 (global_tests (sizes_of m)) n none
          ∙ ap (λ k. first (numbered_from (global_tests (sizes_of m)) k (items_left (enumerate_source c.next.new.self)))) (later ∙ sym s.2),
    )

pub returns-in_err-seal_global : goal.returns-in_err-seal_global
returns-in_err-seal_global c =
    let m = shown_module c.args.«module» in
    let s = (c.in-Some.ensures {u = tt}).steps in
    let i = shown c.in-Some.expression in
    let n = enumerate_count c.loop-number.number-iterator in
    let tests = ap (λ z. first (global_tests z c.in-Some.number i)) c.args.«module».sized ∙ ap (λ k. first (global_tests (sizes_of m) k i)) s.1 in
    let some = sym tests ∙ sym (c.in_err-seal_global.ensures {u = tt}).tested in
    let stop = c.loop-number.invariant.4 ∙ numbered_stopped i _ _ s.0 (global_tests (sizes_of m)) n (breached c.in_err-seal_global.field-0.0) some in
    search rules
