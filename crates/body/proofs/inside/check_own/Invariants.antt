use Rattle.std.proofs.Common.{◌≡◌}
use Rattle.std.specs.List.{flat_map}
use Rattle.items.specs.Item.{items_left}
use Rattle.rules.specs.declared.faults.Rule.TheVariants as rule
use Rattle.rules.specs.Fault.{first, own_inside}
use Rattle.body.proofs.inside.check_own.Given as goal

-- the handles of the items so far are inside
abbrev pub invariant-loop-item : goal.invariant-loop-item
invariant-loop-item l =
    goal.iterator-loop-item.can_next l.item-iterator
    × goal.iterator-loop-item.is_finite l.item-iterator
    × (first (flat_map (own_inside rule.Inside l.sizes) (items_left l.fn.items)) ≡ first (flat_map (own_inside rule.Inside l.sizes) (items_left l.item-iterator)))
