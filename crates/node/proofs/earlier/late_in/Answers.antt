use Rattle.std.proofs.Common.{rules, sym, ap, ◌∙◌}
use Rattle.node.specs.Nodes.{operands_at}
use Rattle.node.specs.Late.{first_late}
use Rattle.node.proofs.Late.{item_pass, item_found}
use Rattle.node.proofs.earlier.late_in.Goals as goal

pub returns-in-Some-clause-answer : goal.returns-in-Some-clause-answer
returns-in-Some-clause-answer g c =
    let late = ap (λ ns. first_late c.loop-item.item (operands_at ns c.loop-item.item)) (sym c.loop-item.invariant.0) ∙ sym c.late_operand.ensures.answer ∙ c.in-Some.is in
    sym (c.loop-item.invariant.1 ∙ item_found _ c.loop-item.item (search rules) c.in-Some.operand late)

pub loop-item-preserved : goal.loop-item-preserved
loop-item-preserved g c =
    let none = ap (λ ns. first_late c.loop-item.item (operands_at ns c.loop-item.item)) (sym c.loop-item.invariant.0) ∙ sym c.late_operand.ensures.answer ∙ c.in_default.is in
    (c.late_operand.ensures.same ∙ c.loop-item.invariant.0, c.loop-item.invariant.1 ∙ item_pass _ c.loop-item.item (search rules) none)
