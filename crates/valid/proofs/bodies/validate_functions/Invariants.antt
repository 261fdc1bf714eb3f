use Rattle.std.proofs.Common.{◌≡◌, Some, map}
use Rattle.std.specs.Iterator.Adapters.{enumerate_source, enumerate_count}
use Rattle.rules.specs.Fault.{first, numbered, numbered_from}
use Rattle.rules.specs.Sizes.{sizes as sizes_of}
use Rattle.rules.specs.Check.{body_tests}
use Rattle.arena.specs.Viewing.{viewed}
use Rattle.items.specs.Item.{items_left}
use Rattle.items.specs.Whole.{body_of}
use Rattle.valid.specs.Module.{shown_module}
use Rattle.valid.proofs.bodies.validate_functions.Given as goal

-- the functions so far pass
abbrev pub invariant-loop-number : goal.invariant-loop-number
invariant-loop-number l =
    goal.iterator-loop-number.can_next l.number-iterator
    × goal.iterator-loop-number.is_finite l.number-iterator
    × (first (numbered (λ f. body_tests (sizes_of (shown_module l.«module»)) (Some f)) (shown_module l.«module»).functions) ≡ first (numbered_from (λ f. body_tests (sizes_of (shown_module l.«module»)) (Some f)) (enumerate_count l.number-iterator) (map (body_of (viewed l.«module».view)) (items_left (enumerate_source l.number-iterator)))))
