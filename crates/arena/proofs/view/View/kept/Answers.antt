use Rattle.arena.proofs.Placing.{kept_is}
use Rattle.arena.proofs.view.View.kept.Goals as goal

pub returns : goal.returns
returns c = kept_is c.args.self.stands
