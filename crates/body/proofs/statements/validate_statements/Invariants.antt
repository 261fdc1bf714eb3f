use Rattle.std.proofs.Common.{◌≡◌, length}
use Rattle.std.specs.List.{flat_map}
use Rattle.rules.specs.Fault.{first}
use Rattle.rules.specs.Check.{statement_tests}
use Rattle.items.specs.Item.{items_left}
use Rattle.body.proofs.statements.validate_statements.Given as goal

-- the statements so far pass
abbrev pub invariant-loop : goal.invariant-loop
invariant-loop l = first (flat_map (statement_tests l.sizes) (items_left l.fn.statements)) ≡ first (flat_map (statement_tests l.sizes) (items_left l.left))

abbrev pub decreases-loop : goal.decreases-loop
decreases-loop l = length (items_left l.left)
