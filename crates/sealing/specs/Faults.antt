-- Which faults the check and sealing can answer.
use Rattle.std.specs.Prelude.{◌≡◌, Bool, true, false, ◌||◌, Some}
use Rattle.rules.specs.declared.faults.Rule.{Rule}
use Rattle.rules.specs.declared.faults.Rule.TheVariants as rule
use Rattle.rules.specs.declared.faults.FaultKind.{FaultKind}
use Rattle.rules.specs.declared.faults.FaultKind.TheVariants as kind
use Rattle.rules.specs.declared.faults.Fault.{Fault}
use Rattle.rules.specs.Module.{Module}
use Rattle.rules.specs.Check.{check}
use Rattle.sealing.specs.Seal.{seal}

-- whether the numbers of a fault of the check can count this, where it breaks this rule
abbrev pub of_check : Rule → FaultKind → Bool
of_check rule.Inside kind.Argument = false
of_check rule.Inside _ = true
of_check rule.Earlier kind.Type = true
of_check rule.Earlier kind.Expression = true
of_check rule.Earlier kind.Function = true
of_check rule.Earlier kind.DiagnosticFilterNode = true
of_check rule.Range kind.Expression = true
of_check _ _ = false

-- the same of a fault that only sealing answers
abbrev pub of_seal : Rule → FaultKind → Bool
of_seal rule.Placed kind.Expression = true
of_seal rule.SealedInside kind.Type = true
of_seal rule.SealedInside kind.GlobalVariable = true
of_seal rule.SealedInside kind.Expression = true
of_seal rule.SealedInside kind.Argument = true
of_seal rule.SealedEarlier kind.Type = true
of_seal rule.SealedEarlier kind.Expression = true
of_seal rule.SealedEarlier kind.Function = true
of_seal _ _ = false

-- there are no other faults
pub record NoOtherFaults (m : Module) : Type 0 where
  pub checks : (f : Fault) → check m ≡ Some f → of_check f.rule f.kind ≡ true
  pub seals : (f : Fault) → seal m ≡ Some f → (of_check f.rule f.kind || of_seal f.rule f.kind) ≡ true
