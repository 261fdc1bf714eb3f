use Rattle.arena.specs.Memory.{Stands}
use Rattle.put_vectors.proofs.run_script.Given as goal

-- the memory is as the last put left it
abbrev pub invariant-loop-word : goal.invariant-loop-word
invariant-loop-word g l =
    (goal.iterator-loop-word g).can_next l.word-iterator ×
    (goal.iterator-loop-word g).is_finite l.word-iterator ×
    Stands l.draft l.bytes l.slots
