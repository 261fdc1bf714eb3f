use Rattle.std.proofs.Common.{◌≡◌, ◌^◌, ◌≤◌, length, take, drop}
use Rattle.std.specs.List.{flat_map}
use Rattle.rules.specs.Once.{inits}
use Rattle.items.specs.Item.{items_left}
use Rattle.promises.specs.Rows.{above, room, counted}
use Rattle.valid.specs.Module.{shown_module}
use Rattle.module_row.proofs.ranks.rooms.Given as goal

-- the rooms of the types so far
abbrev pub invariant-loop-ty : goal.invariant-loop-ty
invariant-loop-ty l =
    goal.iterator-loop-ty.can_next l.ty-iterator
    × goal.iterator-loop-ty.is_finite l.ty-iterator
    × (items_left l.ty-iterator ≡ drop (length l.rooms.items) (shown_module l.«module»).types)
    × (length l.rooms.items ≤ length (shown_module l.«module»).types)
    × (l.rooms.items ≡ counted (room (shown_module l.«module»)) 0 (length l.rooms.items))
    × (l.room ≡ above (flat_map (inits (shown_module l.«module»)) (take (length l.rooms.items) (shown_module l.«module»).types)))
    × (l.room ≤ 2 ^ 32)
