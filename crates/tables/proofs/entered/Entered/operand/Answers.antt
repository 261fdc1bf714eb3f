use Rattle.std.proofs.Common.{◌≡◌, ◌∷◌, drop, Some, None, sym, ◌∙◌, arith}
use Rattle.std.proofs.lemmas.Option.{slice_get_within}
use Rattle.tables.specs.Operands.{operands_left}
use Rattle.tables.proofs.Going.{skipped, none_at, some_at, behind}
use Rattle.tables.proofs.entered.Entered.operand.Goals as goal
use Rattle.tables.proofs.entered.Entered.operand.Goals.{In_ok-operand}

pub returns-in_err-operand-clause-gives : goal.returns-in_err-operand-clause-gives
returns-in_err-operand-clause-gives c =
    c.from_residual.ensures
    ∙ sym (none_at (operands_left c.args.self.now.operands) c.args.place (sym c.before-skipped.ensures ∙ skipped (λ x. x) operands_left c.before-skipped.result.0 c.nth.new.self c.before-skipped.result.1 None c.in_err-operand.ensures.ran))

-- the operand at the place, and those behind it
found : (c : In_ok-operand) → drop c.args.place (operands_left c.args.self.now.operands) ≡ c.in_ok-operand.operand ∷ operands_left c.nth.new.self
found c = sym c.before-skipped.ensures ∙ skipped (λ x. x) operands_left c.before-skipped.result.0 c.nth.new.self c.before-skipped.result.1 (Some c.in_ok-operand.operand) c.in_ok-operand.ensures.ran

pub overflow_add-self : goal.overflow_add-self
overflow_add-self c =
    let all = operands_left c.args.self.now.operands in
    let within = slice_get_within all c.args.place _ (some_at all (operands_left c.nth.new.self) c.args.place c.in_ok-operand.operand (found (goal.at.overflow_add-self c).In_ok-operand)) in
    let few = c.args.self.now.few in
    omega arith

pub invariant_of-self-clause-behind : goal.invariant_of-self-clause-behind
invariant_of-self-clause-behind c = behind (operands_left c.args.self.now.operands) (operands_left c.nth.new.self) c.args.place c.in_ok-operand.operand (found (goal.at.invariant_of-self-clause-behind c).In_ok-operand)

pub returns-clause-gives : goal.returns-clause-gives
returns-clause-gives c = sym (some_at (operands_left c.args.self.now.operands) (operands_left c.nth.new.self) c.args.place c.in_ok-operand.operand (found (goal.at.returns-clause-gives c).In_ok-operand))
