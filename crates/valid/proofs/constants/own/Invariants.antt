use Rattle.std.proofs.Common.{◌≡◌}
use Rattle.records.specs.Handles.{handles_of}
use Rattle.records.specs.Gathered.{handles_left}
use Rattle.rules.specs.Items.{numbers}
use Rattle.valid.proofs.constants.own.Given as goal

-- no handle so far is of the table
abbrev pub invariant-loop-handle : goal.invariant-loop-handle
invariant-loop-handle l =
    goal.iterator-loop-handle.can_next l.handle-iterator
    × goal.iterator-loop-handle.is_finite l.handle-iterator
    × (numbers l.table (handles_of l.item.«record».bytes.now) ≡ numbers l.table (handles_left l.handle-iterator))
