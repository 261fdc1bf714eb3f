use Rattle.records.proofs.Fields.{judged_is}
use Rattle.records.proofs.image.Record.judge.Goals as goal

pub returns-then-fits : goal.returns-then-fits
returns-then-fits c = judged_is c.args.self.bytes.now _ c.in_ok-kind.ensures c.if-fits.ensures

pub returns-else-fits : goal.returns-else-fits
returns-else-fits c = judged_is c.args.self.bytes.now _ c.in_ok-kind.ensures c.if-fits.ensures
