use Rattle.std.proofs.Common.{rules, ◌≡◌, ◌+◌, suc, drop, sym, ap, ◌∙◌, arith}
use Rattle.std.specs.Iterator.Adapters.{enumerate_source, enumerate_count}
use Rattle.rules.specs.Fault.{first}
use Rattle.items.specs.Item.{shown, items_left}
use Rattle.valid.specs.Module.{shown_module}
use Rattle.valid.proofs.Typed.{here_of}
use Rattle.sealing.specs.Once.{pending_once, sizes_once}
use Rattle.seal.specs.Breach.{breached}
use Rattle.seal.proofs.Named.{size_passed, size_stopped}
use Rattle.seal.proofs.sizes.seal_sizes.Goals as goal

pub seal_size-requires-clause-within : goal.seal_size-requires-clause-within
seal_size-requires-clause-within c =
    let all = (shown_module c.args.«module»).types in
    let s = (c.in-Some.ensures {u = tt}).steps in
    let p = here_of all (enumerate_count c.loop-number.number-iterator) _ _ (shown c.in-Some.ty) c.loop-number.invariant.3 s.0 in
    c.requires (enumerate_count c.loop-number.number-iterator) (shown c.in-Some.ty) p.0

pub loop-number-preserved : goal.loop-number-preserved
loop-number-preserved c =
    let m = shown_module c.args.«module» in
    let e = c.in-Some.ensures {u = tt} in
    let g = e.goes.on c.loop-number.invariant.1 in
    let s = e.steps in
    let i = shown c.in-Some.ty in
    let n = enumerate_count c.loop-number.number-iterator in
    let p = here_of m.types n _ _ i c.loop-number.invariant.3 s.0 in
    let after = (c.in_ok-seal_size.ensures {u = tt}).after in
    let none = ap (λ k. first (pending_once m c.loop-number.rest.first k i)) (sym s.1) ∙ sym (c.in_ok-seal_size.ensures {u = tt}).tested in
    let later : suc n ≡ n + 1 = omega arith in (
      g.0,
      g.1,
      after.0,
      p.1 ∙ ap (λ k. drop k m.types) (sym s.2),
      c.loop-number.invariant.4 ∙ size_passed m c.loop-number.rest.first n i _ _ s.0 none
          ∙ ap (λ k. first (sizes_once m k (suc n) (items_left (enumerate_source c.next.new.self)))) (sym after.1)
          ∙ ap (λ k. first (sizes_once m c.seal_size.new.rest.first k (items_left (enumerate_source c.next.new.self)))) (later ∙ sym s.2),
    )

pub returns-in_err-seal_size : goal.returns-in_err-seal_size
returns-in_err-seal_size c =
    let m = shown_module c.args.«module» in
    let s = (c.in-Some.ensures {u = tt}).steps in
    let i = shown c.in-Some.ty in
    let n = enumerate_count c.loop-number.number-iterator in
    let some = ap (λ k. first (pending_once m c.loop-number.rest.first k i)) (sym s.1) ∙ sym (c.in_err-seal_size.ensures {u = tt}).tested in
    let stop = c.loop-number.invariant.4 ∙ size_stopped m c.loop-number.rest.first n i _ _ s.0 (breached c.in_err-seal_size.field-0.0) some in
    search rules
