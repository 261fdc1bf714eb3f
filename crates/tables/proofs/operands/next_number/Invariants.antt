use Rattle.std.proofs.Common.{◌≡◌}
use Rattle.records.specs.Gathered.{handles_left}
use Rattle.rules.specs.Items.{numbers}
use Rattle.tables.proofs.operands.next_number.Given as goal

abbrev pub invariant-loop-handle : goal.invariant-loop-handle
invariant-loop-handle l = numbers l.table (handles_left l.handles) ≡ numbers l.table (handles_left l.initial.handles)
