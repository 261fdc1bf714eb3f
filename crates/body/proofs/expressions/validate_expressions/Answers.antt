use Rattle.std.proofs.Common.{rules, ◌≡◌, ◌+◌, ◌^◌, ◌<◌, ◌∷◌, length, drop, sym, ap, ◌∙◌, inl, arith}
use Rattle.std.specs.Option.{option_or}
use Rattle.std.specs.Iterator.Adapters.{enumerate_count, enumerate_source}
use Rattle.ir.specs.declared.handle.Table.TheVariants as table
use Rattle.rules.specs.Fault.{first, numbered, numbered_from}
use Rattle.rules.specs.Check.{expression_tests}
use Rattle.arena.specs.Viewing.{viewed}
use Rattle.items.specs.Item.{shown, items_left, shown_body}
use Rattle.items.proofs.Between.{few_between}
use Rattle.tables.specs.Cursor.{table_nodes}
use Rattle.tables.proofs.Going.{behind}
use Rattle.body.proofs.Numbered.{operands_numbered, drop_first}
use Rattle.body.proofs.expressions.validate_expressions.Goals as goal
use Rattle.body.proofs.expressions.validate_expressions.Goals.{After-into_iter-number-iterator, In-Some}

module _ (c : After-into_iter-number-iterator) where
  source : enumerate_source c.into_iter-number-iterator.result ≡ c.items-expressions.result
  source = ap enumerate_source c.into_iter-number-iterator.ensures.into_iter_gives ∙ c.enumerate-number-items.ensures.source

  count : enumerate_count c.into_iter-number-iterator.result ≡ 0
  count = ap enumerate_count c.into_iter-number-iterator.ensures.into_iter_gives ∙ c.enumerate-number-items.ensures.count

  few : enumerate_count c.into_iter-number-iterator.result + length (items_left (enumerate_source c.into_iter-number-iterator.result)) < 2 ^ 64
  few =
      let a = c.items-expressions.result in
      let fits = a.fits in
      omega (arith, count, ap (λ s. length (items_left s)) source, few_between a.section (viewed a.view) a.place a.end)

pub loop-number-init-derived : goal.loop-number-init-derived
loop-number-init-derived c = ((tt, tt, inl (few c)), tt)

pub loop-number-init : goal.loop-number-init
loop-number-init c =
    let all = (shown_body c.args.body).expressions in
    record {
      can_next = (tt, tt, inl (few c));
      is_finite = tt;
      few = few c;
      same = c.new-nodes.ensures;
      left = ap (λ n. drop n all) (count c) ∙ sym (ap items_left (source c) ∙ c.items-expressions.ensures);
      passed = ap (λ n. first (numbered_from (expression_tests c.args.sizes c.args.body.opener.place c.args.function) n (drop n all))) (sym (count c));
    }

module _ (c : In-Some) where
  -- the expressions from the number on
  here : drop c.in-Some.number (shown_body c.args.body).expressions ≡ shown c.in-Some.expression ∷ items_left (enumerate_source c.next.new.self)
  here =
      let s = (c.in-Some.ensures {u = tt}).steps in
      ap (λ n. drop n (shown_body c.args.body).expressions) s.1 ∙ c.loop-number.invariant.left ∙ s.0

  tested : first (numbered (expression_tests c.args.sizes c.args.body.opener.place c.args.function) (shown_body c.args.body).expressions)
      ≡ option_or (first (expression_tests c.args.sizes c.args.body.opener.place c.args.function c.in-Some.number (shown c.in-Some.expression)))
      (first (numbered_from (expression_tests c.args.sizes c.args.body.opener.place c.args.function) (enumerate_count c.next.new.self) (drop (enumerate_count c.next.new.self) (shown_body c.args.body).expressions)))
  tested =
      let all = (shown_body c.args.body).expressions in
      let tests = expression_tests c.args.sizes c.args.body.opener.place c.args.function in
      let s = (c.in-Some.ensures {u = tt}).steps in
      let next : enumerate_count c.next.new.self ≡ c.in-Some.number + 1 = omega (arith, s.1, s.2) in
      c.loop-number.invariant.passed
      ∙ ap (λ n. first (numbered_from tests n (drop n all))) (sym s.1)
      ∙ drop_first all (items_left (enumerate_source c.next.new.self)) c.in-Some.number (shown c.in-Some.expression) here tests (enumerate_count c.next.new.self) next

pub validate_expression_handles-requires : goal.validate_expression_handles-requires
validate_expression_handles-requires c =
    operands_numbered (shown_body c.args.body).expressions (items_left (enumerate_source c.next.new.self)) c.in-Some.number (shown c.in-Some.expression) (here (goal.at.validate_expression_handles-requires c).In-Some) table.Expressions (table_nodes c.loop-number.nodes) c.loop-number.invariant.same

pub loop-number-preserved : goal.loop-number-preserved
loop-number-preserved c =
    let all = (shown_body c.args.body).expressions in
    let tests = expression_tests c.args.sizes c.args.body.opener.place c.args.function in
    let k = enumerate_count c.next.new.self in
    let rest = items_left (enumerate_source c.next.new.self) in
    let s = (c.in-Some.ensures {u = tt}).steps in
    let at = (goal.at.loop-number-preserved c).In-Some in
    let next : c.in-Some.number + 1 ≡ k = omega (arith, s.1, s.2) in
    let few : k + length rest < 2 ^ 64 = omega (arith, s.1, s.2, ap length s.0, c.loop-number.invariant.few) in
    record {
      can_next = (tt, tt, inl few);
      is_finite = tt;
      few = few;
      same = c.validate_expression_handles.ensures.same ∙ c.loop-number.invariant.same;
      left = ap (λ n. drop n all) (sym next) ∙ sym (behind all rest c.in-Some.number (shown c.in-Some.expression) (here at));
      passed = tested at ∙ ap (λ o. option_or o (first (numbered_from tests k (drop k all)))) (sym (c.in_ok-validate_expression_handles.ensures {u = tt}).tested);
    }

pub returns-in_err-validate_expression_handles : goal.returns-in_err-validate_expression_handles
returns-in_err-validate_expression_handles c =
    let t = tested (goal.at.returns-in_err-validate_expression_handles c).In-Some in
    search rules
