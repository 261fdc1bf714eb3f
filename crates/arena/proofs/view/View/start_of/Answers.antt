use Rattle.std.proofs.Common.{ap, ◌∙◌}
use Rattle.arena.proofs.Placing.{start_there, end_there}
use Rattle.arena.proofs.view.View.start_of.Goals as goal

pub returns-in-Some : goal.returns-in-Some
returns-in-Some c = let found = c.in-Some.ensures.lookup in ap (λ s. s.start) found.1 ∙ start_there c.args.self.stands c.kept_slots.ensures c.args.place c.in-Some.slot.now found.3.0

pub returns-in-None : goal.returns-in-None
returns-in-None c = end_there c.args.self.stands c.kept_slots.ensures c.args.place c.in-None.ensures.lookup.3
