use Rattle.std.proofs.Common.{◌≡◌, ◌+◌, ◌++◌, suc, map, length, sym, ap, ◌∙◌, arith, append-nil}
use Rattle.promises.specs.Rows.{RowItem}
use Rattle.valid.specs.Module.{shown_module}
use Rattle.module_row.specs.Ranked.{shown_ranked, with_ranks}
use Rattle.module_row.proofs.WithRanks.{pushed, so_many}
use Rattle.module_row.proofs.ranks.Ranks.rank_expressions.Goals as goal

pub loop-number-init : goal.loop-number-init
loop-number-init c = sym (append-nil (map shown_ranked c.args.ranked.now.items))

pub expression_rank-requires : goal.expression_rank-requires
expression_rank-requires c =
    let r = c.loop-number.ranked in
    let a = so_many (shown_module c.args.self.now.«module») shown_ranked (map shown_ranked c.args.ranked.now.items) RowItem.expression c.loop-number.number r.items c.loop-number.invariant in
    let n = r.ok.0 in
    let u = r.ok.1 in
    let s = r.small in
    omega arith

pub loop-number-preserved : goal.loop-number-preserved
loop-number-preserved c =
    let m = shown_module c.args.self.now.«module» in
    let n = c.loop-number.number in
    let before = map shown_ranked c.args.ranked.now.items in
    let later : suc n ≡ n + 1 = omega arith in
    ap (map shown_ranked) (c.in_ok-push.ensures {u = tt}).items
    ∙ pushed m shown_ranked before RowItem.expression n c.loop-number.ranked.items _ c.loop-number.invariant (ap (λ r. (r, RowItem.expression n)) c.expression_rank.ensures.rank)
    ∙ ap (λ k. before ++ with_ranks m RowItem.expression k) later

pub returns : goal.returns
returns c =
    let m = shown_module c.args.self.now.«module» in
    let e = ap (λ s. s.expressions) c.args.self.now.«module».sized in
    let l = c.loop-number-test.false in
    let u = c.loop-number.auto.number-end in
    let all : c.loop-number.number ≡ length m.expressions = omega arith in
    c.loop-number.invariant ∙ ap (λ k. map shown_ranked c.args.ranked.now.items ++ with_ranks m RowItem.expression k) all
