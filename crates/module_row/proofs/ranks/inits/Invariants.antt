use Rattle.std.proofs.Common.{◌≡◌, ◌≤◌, map, length, take, drop}
use Rattle.std.specs.Option.{option_to_list}
use Rattle.rules.specs.Items.{init_of}
use Rattle.items.specs.Item.{items_left}
use Rattle.valid.specs.Module.{shown_module}
use Rattle.module_row.proofs.ranks.inits.Given as goal

-- the inits of the overrides so far
abbrev pub invariant-loop-value : goal.invariant-loop-value
invariant-loop-value l =
    goal.iterator-loop-value.can_next l.value-iterator
    × goal.iterator-loop-value.is_finite l.value-iterator
    × (items_left l.value-iterator ≡ drop (length l.inits.items) (shown_module l.«module»).overrides)
    × (length l.inits.items ≤ length (shown_module l.«module»).overrides)
    × (map option_to_list l.inits.items ≡ map init_of (take (length l.inits.items) (shown_module l.«module»).overrides))
