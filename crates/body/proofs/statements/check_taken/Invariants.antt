use Rattle.std.proofs.Common.{◌≡◌}
use Rattle.std.specs.List.{flat_map}
use Rattle.records.specs.Handles.{handles_of}
use Rattle.records.specs.Image.{split}
use Rattle.rules.specs.declared.faults.Rule.TheVariants as rule
use Rattle.rules.specs.Fault.{first, all_inside}
use Rattle.body.proofs.statements.check_taken.Given as goal

-- the handles of the records so far are inside
abbrev pub invariant-loop-record : goal.invariant-loop-record
invariant-loop-record l =
    goal.iterator-loop-record.can_next l.record-iterator
    × goal.iterator-loop-record.is_finite l.record-iterator
    × (first (all_inside rule.Inside l.sizes l.place (flat_map handles_of (split l.fn.taken.rest.now))) ≡ first (all_inside rule.Inside l.sizes l.place (flat_map handles_of (split l.record-iterator.rest.now))))
