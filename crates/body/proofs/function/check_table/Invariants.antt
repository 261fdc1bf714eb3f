use Rattle.std.proofs.Common.{◌≡◌}
use Rattle.std.specs.List.{filter}
use Rattle.records.specs.Gathered.{handles_left}
use Rattle.rules.specs.declared.faults.Rule.TheVariants as rule
use Rattle.rules.specs.Fault.{first, all_inside}
use Rattle.rules.specs.Items.{is_of}
use Rattle.body.proofs.function.check_table.Given as goal

-- the handles of the table so far are inside
abbrev pub invariant-loop-handle : goal.invariant-loop-handle
invariant-loop-handle l =
    goal.iterator-loop-handle.can_next l.handle-iterator
    × goal.iterator-loop-handle.is_finite l.handle-iterator
    × (first (all_inside rule.Inside l.sizes l.place (filter (is_of l.table) (handles_left l.fn.handles))) ≡ first (all_inside rule.Inside l.sizes l.place (filter (is_of l.table) (handles_left l.handle-iterator))))
