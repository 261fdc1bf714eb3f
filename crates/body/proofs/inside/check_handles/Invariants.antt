use Rattle.std.proofs.Common.{◌≡◌}
use Rattle.records.specs.Gathered.{handles_left}
use Rattle.rules.specs.declared.faults.Rule.TheVariants as rule
use Rattle.rules.specs.Fault.{first, all_inside}
use Rattle.body.proofs.inside.check_handles.Given as goal

-- the handles so far are inside
abbrev pub invariant-loop-handle : goal.invariant-loop-handle
invariant-loop-handle l =
    goal.iterator-loop-handle.can_next l.handle-iterator
    × goal.iterator-loop-handle.is_finite l.handle-iterator
    × (first (all_inside rule.Inside l.sizes l.place (handles_left l.fn.handles)) ≡ first (all_inside rule.Inside l.sizes l.place (handles_left l.handle-iterator)))
