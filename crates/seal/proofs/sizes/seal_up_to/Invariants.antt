use Rattle.std.proofs.Common.{◌≡◌, suc, ◌-◌, max}
use Rattle.std.specs.List.{flat_map}
use Rattle.rules.specs.Fault.{first}
use Rattle.rules.specs.Once.{unmet}
use Rattle.valid.specs.Module.{shown_module}
use Rattle.valid.specs.Unmet.{Waits}
use Rattle.sealing.specs.Seal.{waited_tests}
use Rattle.seal.proofs.sizes.seal_up_to.Given as goal

-- the expressions so far pass
abbrev pub invariant-loop-rest : goal.invariant-loop-rest
invariant-loop-rest l =
    Waits (shown_module l.«module») l.rest
    × (first (flat_map (waited_tests (shown_module l.«module») l.ty l.place) (unmet (shown_module l.«module») l.fn.rest.first l.init)) ≡ first (flat_map (waited_tests (shown_module l.«module») l.ty l.place) (unmet (shown_module l.«module») l.rest.first l.init)))
    × (max (suc l.init) l.rest.first ≡ max (suc l.init) l.fn.rest.first)

abbrev pub decreases-loop-rest : goal.decreases-loop-rest
decreases-loop-rest l = suc l.init - l.rest.first
