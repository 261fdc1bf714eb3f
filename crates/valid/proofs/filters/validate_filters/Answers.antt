use Rattle.std.proofs.Common.{rules, ◌≡◌, ◌+◌, suc, drop, sym, ap, ◌∙◌, arith}
use Rattle.std.specs.Iterator.Adapters.{enumerate_source, enumerate_count}
use Rattle.ir.specs.declared.handle.Table.TheVariants as table
use Rattle.std.specs.List.{slice_get}
use Rattle.rules.specs.Fault.{first, numbered_from}
use Rattle.rules.specs.Check.{filter_tests}
use Rattle.rules.proofs.Firsts.{numbered_passed, numbered_stopped}
use Rattle.items.specs.Item.{shown, items_left}
use Rattle.tables.specs.Cursor.{table_nodes}
use Rattle.body.specs.Errors.{forward_dependency}
use Rattle.valid.specs.Module.{shown_module}
use Rattle.valid.proofs.Typed.{told, here_of}
use Rattle.valid.proofs.filters.validate_filters.Goals as goal

pub loop-number-preserved : goal.loop-number-preserved
loop-number-preserved c =
    let m = shown_module c.args.«module» in
    let e = c.in-Some.ensures {u = tt} in
    let g = e.goes.on c.loop-number.invariant.1 in
    let s = e.steps in
    let i = shown c.in-Some.filter in
    let n = enumerate_count c.loop-number.number-iterator in
    let p = here_of m.filters n _ _ i c.loop-number.invariant.3 s.0 in
    let tests = told table.Filters m.filters (table_nodes c.loop-number.filters) c.loop-number.invariant.2 c.in-Some.number i (ap (slice_get m.filters) s.1 ∙ p.0) in
    let none = ap (λ k. first (filter_tests k i)) (sym s.1) ∙ sym tests ∙ sym (c.in_ok-check_operands.ensures {u = tt}).tested in
    let later : suc n ≡ n + 1 = omega arith in (
      g.0,
      g.1,
      c.check_operands.ensures.same ∙ c.loop-number.invariant.2,
      p.1 ∙ ap (λ k. drop k m.filters) (sym s.2),
      c.loop-number.invariant.4
          ∙ numbered_passed i _ _ s.0 filter_tests n none
          ∙ ap (λ k. first (numbered_from filter_tests k (items_left (enumerate_source c.next.new.self)))) (later ∙ sym s.2),
    )

pub returns-in_err-check_operands : goal.returns-in_err-check_operands
returns-in_err-check_operands c =
    let m = shown_module c.args.«module» in
    let s = (c.in-Some.ensures {u = tt}).steps in
    let i = shown c.in-Some.filter in
    let n = enumerate_count c.loop-number.number-iterator in
    let p = here_of m.filters n _ _ i c.loop-number.invariant.3 s.0 in
    let tests = told table.Filters m.filters (table_nodes c.loop-number.filters) c.loop-number.invariant.2 c.in-Some.number i (ap (slice_get m.filters) s.1 ∙ p.0) in
    let some = ap (λ k. first (filter_tests k i)) (sym s.1) ∙ sym tests ∙ sym (c.in_err-check_operands.ensures {u = tt}).tested in
    let stop = c.loop-number.invariant.4 ∙ numbered_stopped i _ _ s.0 filter_tests n (forward_dependency c.in_err-check_operands.field-0.0) some in
    search rules
