use Rattle.std.proofs.Common.{◌≡◌, map}
use Rattle.std.specs.List.{flat_map}
use Rattle.rules.specs.Fault.{first}
use Rattle.rules.specs.Sizes.{sizes as sizes_of}
use Rattle.arena.specs.Viewing.{viewed}
use Rattle.items.specs.Item.{items_left}
use Rattle.items.specs.Whole.{body_of}
use Rattle.valid.specs.Module.{shown_module}
use Rattle.sealing.specs.Seal.{payload_tests}
use Rattle.seal.proofs.others.seal_payloads.Given as goal

-- the payloads so far are inside
abbrev pub invariant-loop-opener : goal.invariant-loop-opener
invariant-loop-opener l =
    goal.iterator-loop-opener.can_next l.opener-iterator
    × goal.iterator-loop-opener.is_finite l.opener-iterator
    × (first (flat_map (payload_tests (sizes_of (shown_module l.«module»))) (shown_module l.«module»).entries) ≡ first (flat_map (payload_tests (sizes_of (shown_module l.«module»))) (map (body_of (viewed l.«module».view)) (items_left l.opener-iterator))))
