use Rattle.std.proofs.Common.{◌≡◌}
use Rattle.std.specs.Result.{result_err}
use Rattle.images.specs.declared.fixed.TheConstants.{LARGE_BYTES, LARGE_SLOTS}
use Rattle.images.specs.Answer.{refusal_in}
use Rattle.images.proofs.fixed.ask_large.Given as goal

-- the last answer is the defined one
abbrev pub invariant-loop : goal.invariant-loop
invariant-loop l = result_err l.answer ≡ refusal_in l.question LARGE_BYTES LARGE_SLOTS l.image
