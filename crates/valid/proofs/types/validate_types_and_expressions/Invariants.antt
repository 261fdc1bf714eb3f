use Rattle.std.proofs.Common.{◌≡◌, drop}
use Rattle.rules.specs.Fault.{first, numbered_from}
use Rattle.rules.specs.Check.{const_expression_tests}
use Rattle.rules.specs.Once.{types_once}
use Rattle.items.specs.Item.{items_left}
use Rattle.valid.specs.Module.{shown_module}
use Rattle.valid.proofs.types.validate_types_and_expressions.Given as goal

-- the types and the expressions so far pass
abbrev pub invariant-loop-number : goal.invariant-loop-number
invariant-loop-number l =
    (items_left l.left ≡ drop l.number (shown_module l.«module»).expressions)
    × (first (types_once (shown_module l.«module») 0 0 (shown_module l.«module»).types) ≡ first (numbered_from (const_expression_tests (shown_module l.«module»)) l.number (drop l.number (shown_module l.«module»).expressions)))
