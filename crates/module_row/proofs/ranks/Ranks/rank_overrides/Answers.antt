use Rattle.std.proofs.Common.{◌≡◌, ◌+◌, ◌++◌, suc, map, length, drop, sym, ap, inl, ◌∙◌, arith, append-nil, length-drop}
use Rattle.std.specs.Iterator.Adapters.{enumerate_source, enumerate_count}
use Rattle.std.proofs.lemmas.Option.{slice_get_within}
use Rattle.rules.specs.Sizes.{sizes}
use Rattle.items.specs.Item.{shown, items_left}
use Rattle.items.proofs.Left.{left_few}
use Rattle.row.proofs.Places.{in_from_get}
use Rattle.promises.specs.Inside.{ItemInside}
use Rattle.promises.specs.Rows.{RowItem}
use Rattle.promises.proofs.Among.{in_all}
use Rattle.promises.proofs.Rows.{value_rank_is}
use Rattle.valid.specs.Module.{shown_module}
use Rattle.valid.proofs.Typed.{here_of}
use Rattle.module_row.specs.Ranked.{shown_ranked, with_ranks}
use Rattle.module_row.proofs.WithRanks.{pushed}
use Rattle.module_row.proofs.ranks.Ranks.rank_overrides.Goals as goal

pub value_rank-requires : goal.value_rank-requires
value_rank-requires c =
    let m = shown_module c.args.self.now.«module» in
    let n = enumerate_count c.loop-number.number-iterator in
    let s = (c.in-Some.ensures {u = tt}).steps in
    let p = here_of m.overrides n _ _ (shown c.in-Some.value) c.loop-number.invariant.2 s.0 in
    in_all (ItemInside (sizes m)) m.overrides (shown c.in-Some.value) c.requires (in_from_get m.overrides n (shown c.in-Some.value) p.0)

pub loop-number-init : goal.loop-number-init
loop-number-init c =
    let m = shown_module c.args.self.now.«module» in
    let is = c.into_iter-number-iterator.ensures.into_iter_gives in
    let n : enumerate_count c.into_iter-number-iterator.result ≡ 0 = ap enumerate_count is ∙ c.enumerate-number-items.ensures.count in
    let f = left_few (enumerate_source c.into_iter-number-iterator.result) in (
      (tt, tt, inl (omega (arith, f, n))),
      tt,
      ap (λ i. items_left (enumerate_source i)) is ∙ ap items_left c.enumerate-number-items.ensures.source ∙ c.items.ensures ∙ ap (λ k. drop k m.overrides) (sym n),
      omega arith,
      sym (append-nil (map shown_ranked c.args.ranked.now.items)) ∙ ap (λ k. map shown_ranked c.args.ranked.now.items ++ with_ranks m RowItem.override k) (sym n),
    )

pub loop-number-preserved : goal.loop-number-preserved
loop-number-preserved c =
    let m = shown_module c.args.self.now.«module» in
    let e = c.in-Some.ensures {u = tt} in
    let g = e.goes.on c.loop-number.invariant.1 in
    let s = e.steps in
    let i = shown c.in-Some.value in
    let n = enumerate_count c.loop-number.number-iterator in
    let p = here_of m.overrides n _ _ i c.loop-number.invariant.2 s.0 in
    let w = slice_get_within m.overrides n i p.0 in
    let before = map shown_ranked c.args.ranked.now.items in
    let later : suc n ≡ n + 1 = omega arith in
    let next = s.2 in (
      g.0,
      g.1,
      p.1 ∙ ap (λ k. drop k m.overrides) (sym s.2),
      omega arith,
      ap (map shown_ranked) (c.in_ok-push.ensures {u = tt}).items
          ∙ pushed m shown_ranked before RowItem.override n c.loop-number.ranked.items _ c.loop-number.invariant.4
          (ap (λ j. (c.value_rank.result, RowItem.override j)) s.1 ∙ ap (λ r. (r, RowItem.override n)) (c.value_rank.ensures ∙ sym (value_rank_is m m.overrides n i p.0)))
          ∙ ap (λ k. before ++ with_ranks m RowItem.override k) (later ∙ sym s.2),
    )

pub returns : goal.returns
returns c =
    let m = shown_module c.args.self.now.«module» in
    let n = enumerate_count c.loop-number.number-iterator in
    let l = ap length (sym c.loop-number.invariant.2 ∙ (c.in-None.ensures {u = tt}).steps.0.0) in
    let d = length-drop n m.overrides in
    let u = c.loop-number.invariant.3 in
    let all : n ≡ length m.overrides = omega arith in
    c.loop-number.invariant.4 ∙ ap (λ k. map shown_ranked c.args.ranked.now.items ++ with_ranks m RowItem.override k) all
