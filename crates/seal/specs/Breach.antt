-- The fault that a failed test of sealing is.
use Rattle.rules.specs.declared.faults.Rule.TheVariants as rule
use Rattle.rules.specs.declared.faults.FaultKind.TheVariants as kind
use Rattle.rules.specs.declared.faults.Fault.{Fault}
use Rattle.body.specs.Errors.{bad_handle, forward_dependency}
use Rattle.seal.specs.declared.breach.Breach.{Breach}
use Rattle.seal.specs.declared.breach.Breach.TheVariants.{Misplaced, Outside, Later}

-- found by a test of the check, but reported as sealing does
abbrev pub outside : Fault → Fault
outside f = record f { rule = rule.SealedInside }

abbrev pub later : Fault → Fault
later f = record f { rule = rule.SealedEarlier }

-- the rule that is broken, what the numbers count, the numbers and the place
abbrev pub breached : Breach → Fault
breached (Misplaced e) = record { rule = rule.Placed; kind = kind.Expression; first = e.number; second = 0; place = e.place }
breached (Outside e) = outside (bad_handle e)
breached (Later e) = later (forward_dependency e)
