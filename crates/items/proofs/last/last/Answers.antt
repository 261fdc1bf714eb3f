use Rattle.items.proofs.Left.{left_last}
use Rattle.items.proofs.last.last.Goals as goal

pub returns : goal.returns
returns c = left_last c.args.items c.last.result c.last.ensures.ran
