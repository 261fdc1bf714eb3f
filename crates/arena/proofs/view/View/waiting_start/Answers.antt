use Rattle.std.proofs.Common.{◌-◌, length, take, ap, ◌∙◌, arith}
use Rattle.draft.specs.Admitted.{image}
use Rattle.arena.specs.Viewing.{viewed}
use Rattle.arena.proofs.Putting.{waiting_kept, place_is}
use Rattle.arena.proofs.view.View.waiting_start.Goals as goal

pub overflow_sub-self : goal.overflow_sub-self
overflow_sub-self c = let k = waiting_kept c.args.self.stands in omega arith

pub returns : goal.returns
returns c = c.start_of.ensures ∙ ap (λ n. length (image (take n (viewed c.args.self)))) (ap (λ n. c.args.self.draft.now.counts.kept - n) c.waiting.ensures ∙ place_is c.args.self.stands)
