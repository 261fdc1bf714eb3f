use Rattle.std.proofs.Common.{◌≡◌}
use Rattle.std.specs.List.{flat_map}
use Rattle.records.specs.Handles.{handles_of}
use Rattle.records.specs.Gathered.{handles_left}
use Rattle.rules.specs.Fault.{first}
use Rattle.rules.specs.Check.{named_tests}
use Rattle.items.specs.Item.{shown}
use Rattle.body.proofs.expressions.check_names.Given as goal

-- what is named so far is inside
abbrev pub invariant-loop-handle : goal.invariant-loop-handle
invariant-loop-handle l =
    goal.iterator-loop-handle.can_next l.handle-iterator
    × goal.iterator-loop-handle.is_finite l.handle-iterator
    × (first (flat_map (named_tests l.sizes l.place l.function (shown l.item)) (handles_of l.item.«record».bytes.now)) ≡ first (flat_map (named_tests l.sizes l.place l.function (shown l.item)) (handles_left l.handle-iterator)))
