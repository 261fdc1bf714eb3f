use Rattle.std.proofs.Common.{◌≡◌, suc, ◌-◌, max}
use Rattle.rules.specs.Fault.{first, numbered_from}
use Rattle.rules.specs.Check.{sized_tests}
use Rattle.rules.specs.Once.{unmet}
use Rattle.valid.specs.Module.{shown_module}
use Rattle.valid.specs.Unmet.{Waits}
use Rattle.valid.proofs.sizes.validate_up_to.Given as goal

-- the expressions so far pass
abbrev pub invariant-loop-rest : goal.invariant-loop-rest
invariant-loop-rest l =
    Waits (shown_module l.«module») l.rest
    × (first (numbered_from (sized_tests (shown_module l.«module») l.ty l.place) l.fn.rest.first (unmet (shown_module l.«module») l.fn.rest.first l.init)) ≡ first (numbered_from (sized_tests (shown_module l.«module») l.ty l.place) l.rest.first (unmet (shown_module l.«module») l.rest.first l.init)))
    × (max (suc l.init) l.rest.first ≡ max (suc l.init) l.fn.rest.first)

abbrev pub decreases-loop-rest : goal.decreases-loop-rest
decreases-loop-rest l = suc l.init - l.rest.first
