use Rattle.arena.proofs.Placing.{used_within, begins_kept}
use Rattle.arena.proofs.Putting.{waiting_part}
use Rattle.arena.proofs.view.View.waiting_block.Goals as goal

pub slice_bounds-result-count : goal.slice_bounds-result-count
slice_bounds-result-count c = begins_kept c.args.self.stands _ c.waiting_start-start.ensures

pub slice_bounds-result-start : goal.slice_bounds-result-start
slice_bounds-result-start c = begins_kept c.args.self.stands _ c.waiting_start-start.ensures

pub slice_bounds-result-end : goal.slice_bounds-result-end
slice_bounds-result-end c = used_within c.args.self.stands

pub returns : goal.returns
returns c = waiting_part c.args.self.stands c.waiting_start-start.result c.waiting_start-start.ensures
