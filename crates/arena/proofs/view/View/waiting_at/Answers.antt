use Rattle.std.proofs.Common.{◌≡◌, ◌≤◌, ◌-◌, length, take, min, ap, ◌∙◌, arith}
use Rattle.std.specs.List.{between}
use Rattle.std.proofs.lemmas.List.{take_min}
use Rattle.draft.specs.State.{state}
use Rattle.draft.specs.Admitted.{image}
use Rattle.arena.specs.Viewing.{viewed}
use Rattle.arena.proofs.Placing.{begins_within}
use Rattle.arena.proofs.Taking.{waiting_within, waiting_block}
use Rattle.arena.proofs.view.View.waiting_at.Goals as goal
use Rattle.arena.proofs.view.View.waiting_at.Goals.{After-start_of-stop}

parts : (c : After-start_of-stop) → (c.start_of-start.result ≤ c.start_of-stop.result) × (between c.start_of-start.result c.start_of-stop.result c.args.self.bytes.now ≡ image (state (take c.min-end.result (viewed c.args.self))).waiting)
parts c =
    let m = c.min-end.ensures in
    let k = c.kept.ensures in
    waiting_block c.args.self.stands c.min-end.result (omega arith) c.start_of-start.result c.start_of-stop.result (c.start_of-start.ensures ∙ ap (λ n. length (image (take (c.min-end.result - n) (viewed c.args.self)))) c.waiting_count.ensures) c.start_of-stop.ensures

pub overflow_sub-end : goal.overflow_sub-end
overflow_sub-end c = let m = c.min-end.ensures in let k = c.kept.ensures in let w = waiting_within c.args.self.stands c.min-end.result (omega arith) in let e = c.waiting_count.ensures in omega arith

pub slice_bounds-result-count : goal.slice_bounds-result-count
slice_bounds-result-count c = (parts (goal.at.slice_bounds-result-count c).After-start_of-stop).0

pub slice_bounds-result-start : goal.slice_bounds-result-start
slice_bounds-result-start c = (parts (goal.at.slice_bounds-result-start c).After-start_of-stop).0

pub slice_bounds-result-end : goal.slice_bounds-result-end
slice_bounds-result-end c = begins_within c.args.self.stands _ c.start_of-stop.ensures

pub returns : goal.returns
returns c = (parts (goal.at.returns c).After-start_of-stop).1 ∙ ap (λ l. image (state l).waiting) (ap (λ n. take n (viewed c.args.self)) (c.min-end.ensures ∙ ap (min c.args.place) c.kept.ensures) ∙ take_min c.args.place (viewed c.args.self))
