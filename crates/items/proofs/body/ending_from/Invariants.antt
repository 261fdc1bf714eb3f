use Rattle.std.proofs.Common.{◌≡◌}
use Rattle.arena.specs.Viewing.{viewed}
use Rattle.items.specs.Whole.{ending_from}
use Rattle.items.proofs.body.ending_from.Given as goal

-- no record so far ends a body
abbrev pub invariant-loop-end : goal.invariant-loop-end
invariant-loop-end l = ending_from (viewed l.view) l.fn.place ≡ ending_from (viewed l.view) l.end
