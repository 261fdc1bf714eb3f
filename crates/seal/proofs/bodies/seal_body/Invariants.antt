use Rattle.std.proofs.Common.{◌≡◌}
use Rattle.std.specs.List.{flat_map}
use Rattle.rules.specs.Fault.{first}
use Rattle.items.specs.Item.{items_left, shown_body}
use Rattle.sealing.specs.Seal.{inner_tests}
use Rattle.seal.proofs.bodies.seal_body.Given as goal

-- the expressions so far pass
abbrev pub invariant-loop-expression : goal.invariant-loop-expression
invariant-loop-expression l =
    goal.iterator-loop-expression.can_next l.expression-iterator
    × goal.iterator-loop-expression.is_finite l.expression-iterator
    × (first (flat_map (inner_tests l.sizes l.count) (shown_body l.body).expressions) ≡ first (flat_map (inner_tests l.sizes l.count) (items_left l.expression-iterator)))
