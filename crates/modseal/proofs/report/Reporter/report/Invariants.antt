use Rattle.std.proofs.Common.{◌≡◌, ◌+◌, length}
use Rattle.std.specs.Iterator.Adapters.{enumerate_source}
use Rattle.modseal.proofs.report.Reporter.report.Given as goal

-- the offset and what is left make the image
abbrev pub invariant-loop-index : goal.invariant-loop-index
invariant-loop-index g l =
    (goal.iterator-loop-index g).can_next l.index-iterator ×
    (goal.iterator-loop-index g).is_finite l.index-iterator ×
    (l.offset + length (enumerate_source l.index-iterator).rest.now ≡ length l.fn.image)
