use Rattle.arena.specs.Memory.{Stands}
use Rattle.sealed_walk.proofs.tests.chain.Given as goal

-- the memory is as the last put left it
abbrev pub invariant-loop-before : goal.invariant-loop-before
invariant-loop-before g l = Stands l.draft l.bytes l.slots
