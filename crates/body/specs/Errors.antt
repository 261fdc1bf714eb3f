-- The fault that each error is.
use Rattle.rules.specs.declared.faults.Rule.TheVariants as rule
use Rattle.rules.specs.declared.faults.FaultKind.TheVariants as kind
use Rattle.rules.specs.declared.faults.Fault.{Fault}
use Rattle.body.specs.declared.errors.BadHandle.{BadHandle}
use Rattle.body.specs.declared.errors.FwdDepError.{FwdDepError}
use Rattle.body.specs.declared.errors.BadRangeError.{BadRangeError}
use Rattle.body.specs.declared.errors.InvalidHandleError.{InvalidHandleError}
use Rattle.body.specs.declared.errors.InvalidHandleError.TheVariants as invalid
use Rattle.body.specs.declared.errors.ValidationError.{ValidationError}
use Rattle.body.specs.declared.errors.ValidationError.TheVariants as validation

abbrev pub bad_handle : BadHandle → Fault
bad_handle e = record { rule = rule.Inside; kind = e.kind; first = e.index; second = 0; place = e.place }

abbrev pub forward_dependency : FwdDepError → Fault
forward_dependency e = record { rule = rule.Earlier; kind = e.kind; first = e.subject; second = e.depends_on; place = e.place }

abbrev pub bad_range : BadRangeError → Fault
bad_range e = record { rule = rule.Range; kind = kind.Expression; first = e.start; second = e.end; place = e.place }

abbrev pub invalid_handle : InvalidHandleError → Fault
invalid_handle (invalid.BadHandle e) = bad_handle e
invalid_handle (invalid.ForwardDependency e) = forward_dependency e
invalid_handle (invalid.BadRange e) = bad_range e

abbrev pub whole : ValidationError → Fault
whole (validation.InvalidHandle e) = invalid_handle e
