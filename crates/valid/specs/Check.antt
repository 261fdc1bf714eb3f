-- What the check answers.
use Rattle.std.specs.Prelude.{cond, Some, Option}
use Rattle.std.specs.Option.{option_map}
use Rattle.rules.specs.declared.faults.Rejection.{Rejection}
use Rattle.rules.specs.declared.faults.Rejection.TheVariants.{Unfinished, Faulty}
use Rattle.rules.specs.Check.{check}
use Rattle.draft.specs.State.{State}
use Rattle.arena.specs.Viewing.{finished}

-- why a draft is refused, if it is: a function is open or records wait, or else the first test of its module that fails
abbrev pub verdict_of : State → Option Rejection
verdict_of s = cond (finished s) (option_map Faulty (check s.built)) (Some Unfinished)
