use Rattle.arena.specs.Memory.{Stands}
use Rattle.module_row.proofs.tests.row_of.Given as goal

-- the memory is as the last put left it
abbrev pub invariant-loop-record : goal.invariant-loop-record
invariant-loop-record l = Stands l.draft l.bytes l.slots
