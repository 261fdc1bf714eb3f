use Rattle.tables.proofs.Numbers.{cut_steps}
use Rattle.tables.proofs.others.OthersIterator.next.Goals as goal

pub returns-in-Taken-clause-steps : goal.returns-in-Taken-clause-steps
returns-in-Taken-clause-steps c = rw c.in-Taken.is (rw (c.in-Taken.records-is) (cut_steps _ _ _ c.next-record.ensures.steps))
