-- The fault that a result answers.
use Rattle.std.specs.Prelude.{Option, Result}
use Rattle.std.specs.Option.{option_map}
use Rattle.std.specs.Result.{result_err}
use Rattle.rules.specs.declared.faults.Fault.{Fault}

-- the fault that a result answers, if it does
abbrev pub failure : {T E : Type 0} → (E → Fault) → Result T E → Option Fault
failure whole r = option_map whole (result_err r)
