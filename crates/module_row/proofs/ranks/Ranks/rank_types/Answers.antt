use Rattle.std.proofs.Common.{◌≡◌, ◌+◌, ◌++◌, suc, map, length, sym, ap, ◌∙◌, arith, append-nil}
use Rattle.promises.specs.Rows.{RowItem}
use Rattle.valid.specs.Module.{shown_module}
use Rattle.module_row.specs.Ranked.{shown_ranked, with_ranks}
use Rattle.module_row.proofs.WithRanks.{pushed}
use Rattle.module_row.proofs.ranks.Ranks.rank_types.Goals as goal

pub loop-number-init : goal.loop-number-init
loop-number-init c = sym (append-nil (map shown_ranked c.args.ranked.now.items))

pub type_rank-requires : goal.type_rank-requires
type_rank-requires c = let e = ap (λ s. s.types) c.args.self.now.«module».sized in omega (arith, c.loop-number-test.true)

pub loop-number-preserved : goal.loop-number-preserved
loop-number-preserved c =
    let m = shown_module c.args.self.now.«module» in
    let n = c.loop-number.number in
    let before = map shown_ranked c.args.ranked.now.items in
    let later : suc n ≡ n + 1 = omega arith in
    ap (map shown_ranked) (c.in_ok-push.ensures {u = tt}).items
    ∙ pushed m shown_ranked before RowItem.type n c.loop-number.ranked.items _ c.loop-number.invariant (ap (λ r. (r, RowItem.type n)) c.type_rank.ensures.rank)
    ∙ ap (λ k. before ++ with_ranks m RowItem.type k) later

pub returns : goal.returns
returns c =
    let m = shown_module c.args.self.now.«module» in
    let e = ap (λ s. s.types) c.args.self.now.«module».sized in
    let l = c.loop-number-test.false in
    let u = c.loop-number.auto.number-end in
    let all : c.loop-number.number ≡ length m.types = omega arith in
    c.loop-number.invariant ∙ ap (λ k. map shown_ranked c.args.ranked.now.items ++ with_ranks m RowItem.type k) all
