use Rattle.std.proofs.Common.{◌≡◌, ◌++◌, map, List}
use Rattle.rules.specs.Module.{Body}
use Rattle.arena.specs.Viewing.{viewed}
use Rattle.items.specs.declared.section.Section.TheVariants.{Numbered}
use Rattle.items.specs.Item.{items_left}
use Rattle.items.specs.Whole.{items_of, body_of}
use Rattle.walks.specs.Both.{EachWalked}
use Rattle.walks.proofs.bodies.walk_bodies.Given as goal

-- the bodies so far are walked, and with those left they are all
abbrev pub invariant-loop-opener : goal.invariant-loop-opener
invariant-loop-opener l =
    goal.iterator-loop-opener.can_next l.opener-iterator
    × goal.iterator-loop-opener.is_finite l.opener-iterator
    × ((done : List Body)
    × EachWalked done l.walks.items
    × (map (body_of (viewed l.view)) (items_of (Numbered l.fn.table) (viewed l.view)) ≡ done ++ map (body_of (viewed l.view)) (items_left l.opener-iterator)))
