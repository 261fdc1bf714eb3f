use Rattle.std.proofs.Common.{◌≡◌, drop}
use Rattle.std.specs.Iterator.Adapters.{enumerate_source, enumerate_count}
use Rattle.rules.specs.Fault.{first}
use Rattle.items.specs.Item.{items_left}
use Rattle.valid.specs.Module.{shown_module}
use Rattle.valid.specs.Unmet.{Waits}
use Rattle.sealing.specs.Once.{sizes_once}
use Rattle.seal.proofs.sizes.seal_sizes.Given as goal

-- the types so far pass
abbrev pub invariant-loop-number : goal.invariant-loop-number
invariant-loop-number l =
    goal.iterator-loop-number.can_next l.number-iterator
    × goal.iterator-loop-number.is_finite l.number-iterator
    × Waits (shown_module l.«module») l.rest
    × (items_left (enumerate_source l.number-iterator) ≡ drop (enumerate_count l.number-iterator) (shown_module l.«module»).types)
    × (first (sizes_once (shown_module l.«module») 0 0 (shown_module l.«module»).types) ≡ first (sizes_once (shown_module l.«module») l.rest.first (enumerate_count l.number-iterator) (items_left (enumerate_source l.number-iterator))))
