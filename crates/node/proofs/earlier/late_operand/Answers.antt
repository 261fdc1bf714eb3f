use Rattle.std.proofs.Common.{sym, ap, ◌∙◌}
use Rattle.node.specs.Nodes.{operand_of}
use Rattle.node.proofs.Late.{late_pass, late_found}
use Rattle.node.proofs.earlier.late_operand.Goals as goal

pub returns-then-operand-item-clause-answer : goal.returns-then-operand-item-clause-answer
returns-then-operand-item-clause-answer g c =
    let at = ap (λ ns. operand_of ns c.args.item c.loop-place.place) (sym c.loop-place.invariant.0) ∙ sym c.operand.ensures.answer ∙ c.unwrap-operand.ensures in
    sym (c.loop-place.invariant.2 ∙ late_found c.args.item _ c.loop-place.place c.unwrap-operand.result at c.if-operand-item.true)

pub loop-place-preserved : goal.loop-place-preserved
loop-place-preserved g c =
    let at = ap (λ ns. operand_of ns c.args.item c.loop-place.place) (sym c.loop-place.invariant.0) ∙ sym c.operand.ensures.answer ∙ c.unwrap-operand.ensures in
    (c.operand.ensures.same ∙ c.loop-place.invariant.0, c.loop-place.invariant.1, c.loop-place.invariant.2 ∙ late_pass c.args.item _ c.loop-place.place c.unwrap-operand.result at c.if-operand-item.false)
