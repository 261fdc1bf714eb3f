use Rattle.std.proofs.Common.{◌≡◌, map}
use Rattle.ir.specs.declared.handle.Table.TheVariants as table
use Rattle.rules.specs.declared.faults.Rule.TheVariants as rule
use Rattle.rules.specs.Fault.{first, earlier}
use Rattle.rules.specs.Items.{handles, numbers}
use Rattle.items.specs.Item.{shown}
use Rattle.tables.specs.Operands.{operands_left}
use Rattle.valid.proofs.constants.check_components.Given as goal

-- the components so far are earlier
abbrev pub invariant-loop-component : goal.invariant-loop-component
invariant-loop-component l =
    goal.iterator-loop-component.can_next l.component-iterator
    × goal.iterator-loop-component.is_finite l.component-iterator
    × (first (map (earlier rule.Earlier table.Expressions l.number l.compose.place) (numbers table.Expressions (handles (shown l.compose)))) ≡ first (map (earlier rule.Earlier table.Expressions l.number l.compose.place) (operands_left l.component-iterator)))
