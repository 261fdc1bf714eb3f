use Rattle.std.proofs.Common.{sym}
use Rattle.std.proofs.lemmas.List.{length-take-le}
use Rattle.arena.proofs.Placing.{kept_within}
use Rattle.arena.proofs.view.View.kept_slots.Goals as goal

pub slice_bounds-result-end : goal.slice_bounds-result-end
slice_bounds-result-end c = sym (length-take-le c.args.self.draft.now.counts.kept c.args.self.slots.now (kept_within c.args.self.stands))
