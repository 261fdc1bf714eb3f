use Rattle.arena.specs.Memory.{Stands}
use Rattle.sealed_walk.proofs.tests.walked.Given as goal

-- the memory is as the last put left it
abbrev pub invariant-loop-record : goal.invariant-loop-record
invariant-loop-record g l = Stands l.draft l.bytes l.slots
