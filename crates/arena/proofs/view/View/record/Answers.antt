use Rattle.std.proofs.Common.{◌≤◌, [], Some, sym, ap, ◌∙◌, arith}
use Rattle.std.proofs.lemmas.Option.{slice_get-get_or}
use Rattle.arena.proofs.Placing.{kept_is, begins_within, start_more, record_part}
use Rattle.arena.specs.Viewing.{viewed}
use Rattle.arena.proofs.view.View.record.Goals as goal
use Rattle.arena.proofs.view.View.record.Goals.{After-start_of-end}

-- the record begins before it ends
in_order : (c : After-start_of-end) → c.start_of-start.result ≤ c.start_of-end.result
in_order c = let k = kept_is c.args.self.stands in let e = c.kept.ensures in let m = start_more c.args.self.stands c.args.place (omega arith) in omega arith

pub returns : goal.returns
returns c =
    let k = kept_is c.args.self.stands in
    let e = c.kept.ensures in
    slice_get-get_or (viewed c.args.self) c.args.place [] (omega arith) ∙ ap Some (sym (record_part c.args.self.stands c.args.place _ _ (omega arith) c.start_of-start.ensures c.start_of-end.ensures))

pub slice_bounds-result-count : goal.slice_bounds-result-count
slice_bounds-result-count c = in_order (goal.at.slice_bounds-result-count c).After-start_of-end

pub slice_bounds-result-start : goal.slice_bounds-result-start
slice_bounds-result-start c = in_order (goal.at.slice_bounds-result-start c).After-start_of-end

pub slice_bounds-result-end : goal.slice_bounds-result-end
slice_bounds-result-end c = begins_within c.args.self.stands _ c.start_of-end.ensures
