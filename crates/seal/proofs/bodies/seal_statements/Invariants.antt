use Rattle.std.proofs.Common.{◌≡◌}
use Rattle.std.specs.List.{flat_map}
use Rattle.rules.specs.Fault.{first}
use Rattle.items.specs.Item.{items_left, shown_body}
use Rattle.sealing.specs.Seal.{compare_tests}
use Rattle.seal.proofs.bodies.seal_statements.Given as goal

-- the statements so far pass
abbrev pub invariant-loop-statement : goal.invariant-loop-statement
invariant-loop-statement l =
    goal.iterator-loop-statement.can_next l.statement-iterator
    × goal.iterator-loop-statement.is_finite l.statement-iterator
    × (first (flat_map (compare_tests l.inner) (shown_body l.body).statements) ≡ first (flat_map (compare_tests l.inner) (items_left l.statement-iterator)))
