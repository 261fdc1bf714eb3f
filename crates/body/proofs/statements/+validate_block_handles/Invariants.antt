use Rattle.std.proofs.Common.{◌≡◌, ◌≤◌, length}
use Rattle.std.specs.List.{flat_map}
use Rattle.rules.specs.Fault.{first}
use Rattle.rules.specs.Check.{statement_tests}
use Rattle.items.specs.Item.{items_left}
use Rattle.body.proofs.statements.+validate_block_handles.Given as goal

-- fewer and fewer statements are left
abbrev pub decreases-validate_block_handles : goal.decreases-validate_block_handles
decreases-validate_block_handles l = length (items_left l.left.now)

-- the statements so far pass
abbrev pub invariant-loop-statement : goal.invariant-loop-statement
invariant-loop-statement l =
    (first (flat_map (statement_tests l.sizes) (items_left l.fn.left)) ≡ first (flat_map (statement_tests l.sizes) (items_left l.left)))
    × (length (items_left l.left) ≤ length (items_left l.fn.left))

abbrev pub decreases-loop-statement : goal.decreases-loop-statement
decreases-loop-statement l = length (items_left l.left)
