use Rattle.std.proofs.Common.{◌≡◌, [], ◌++◌, length, take, drop}
use Rattle.arena.specs.Memory.{Stands, records}
use Rattle.runs.specs.Runs.{run}
use Rattle.history.specs.Calls.{puts_of, outcomes}
use Rattle.history.proofs.Leaving.{Left}
use Rattle.history.proofs.replay.replay.Given as goal

-- the calls so far were made, each as it is defined
abbrev pub invariant-loop-place : goal.invariant-loop-place
invariant-loop-place g l =
    Stands l.draft l.bytes l.slots ×
    (l.answers ≡ outcomes g.T.NodeTable.nodes (length l.initial.bytes) (length l.initial.slots) (length l.initial.values) [] (take l.place l.calls) ++ drop l.place l.initial.answers) ×
    (records l.draft l.bytes l.slots ≡ run (length l.initial.bytes) (length l.initial.slots) [] (puts_of (take l.place l.calls))) ×
    Left g.T.NodeTable.nodes g.R.Reading.steps (length l.initial.bytes) (length l.initial.slots) (length l.initial.values) [] (take l.place l.calls) l.initial.values l.values
