use Rattle.std.proofs.Common.{◌≡◌, Some, None, MatchOption, sym, ◌∙◌, subst}
use Rattle.std.specs.List.{slice_get}
use Rattle.arena.specs.Viewing.{viewed}
use Rattle.items.proofs.Ending.{ending_here, ending_later}
use Rattle.items.proofs.body.ending_from.Goals as goal
use Rattle.items.proofs.body.ending_from.Goals.{After-is_ending}

kept : (c : After-is_ending) → slice_get (viewed c.args.view) c.loop-end.end ≡ Some c.unwrap-bytes.result.now
kept c = subst (λ o. MatchOption o (slice_get (viewed c.args.view) c.loop-end.end ≡ None) (λ x. slice_get (viewed c.args.view) c.loop-end.end ≡ Some x.now)) c.unwrap-bytes.ensures c.record.ensures

pub returns-then-is_ending : goal.returns-then-is_ending
returns-then-is_ending c =
    let k = kept (goal.at.returns-then-is_ending c).After-is_ending in
    sym (c.loop-end.invariant ∙ ending_here (viewed c.args.view) c.loop-end.end c.unwrap-bytes.result.now k (sym c.is_ending.ensures ∙ c.if-is_ending.true))

pub loop-end-preserved : goal.loop-end-preserved
loop-end-preserved c =
    let k = kept (goal.at.loop-end-preserved c).After-is_ending in
    c.loop-end.invariant ∙ ending_later (viewed c.args.view) c.loop-end.end c.unwrap-bytes.result.now k (sym c.is_ending.ensures ∙ c.if-is_ending.false)
