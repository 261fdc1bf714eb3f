use Rattle.std.proofs.Common.{rules, ap, ◌∙◌}
use Rattle.std.specs.Option.{option_map}
use Rattle.rules.specs.declared.faults.Rejection.TheVariants.{Faulty}
use Rattle.rules.proofs.Verdict.{verdict}
use Rattle.draft.specs.State.{state}
use Rattle.arena.specs.Viewing.{viewed}
use Rattle.valid.proofs.Checked.{answered}
use Rattle.valid.proofs.check.check.Goals as goal

pub returns-in_default-clause-laws : goal.returns-in_default-clause-laws
returns-in_default-clause-laws c = verdict (state (viewed c.args.view)).built

pub returns-in_err-validate_module_handles-clause-laws : goal.returns-in_err-validate_module_handles-clause-laws
returns-in_err-validate_module_handles-clause-laws c = verdict (state (viewed c.args.view)).built

pub returns-clause-laws : goal.returns-clause-laws
returns-clause-laws c = verdict (state (viewed c.args.view)).built

pub returns-in_err-validate_module_handles-clause-answer : goal.returns-in_err-validate_module_handles-clause-answer
returns-in_err-validate_module_handles-clause-answer c =
    let stop = ap (option_map Faulty) (c.in_err-validate_module_handles.ensures {u = tt}) ∙ answered c.args.view c.in-Some.«module» (c.in-Some.ensures {u = tt}) in
    search rules

pub returns-clause-answer : goal.returns-clause-answer
returns-clause-answer c = ap (option_map Faulty) (c.in_ok-validate_module_handles.ensures {u = tt}) ∙ answered c.args.view c.in-Some.«module» (c.in-Some.ensures {u = tt})
