use Rattle.std.proofs.Common.{rules, sym, ap, ◌∙◌}
use Rattle.std.specs.Option.{option_map}
use Rattle.rules.specs.declared.faults.Rule.TheVariants as rule
use Rattle.node.specs.Nodes.{operands_at}
use Rattle.body.proofs.Late.{late_fault, late_first}
use Rattle.body.proofs.expressions.check_operands.Goals as goal

pub returns-in-Some-clause-tested : goal.returns-in-Some-clause-tested
returns-in-Some-clause-tested g c =
    let p = late_first rule.Earlier c.args.table c.args.item c.args.place (operands_at (g.T.NodeTable.nodes c.args.nodes.now) c.args.item) in
    let q = ap (option_map (late_fault rule.Earlier c.args.table c.args.item c.args.place)) (sym c.late_operand.ensures.answer ∙ c.in-Some.is) in
    search rules

pub returns-in-None-clause-tested : goal.returns-in-None-clause-tested
returns-in-None-clause-tested g c =
    let p = late_first rule.Earlier c.args.table c.args.item c.args.place (operands_at (g.T.NodeTable.nodes c.args.nodes.now) c.args.item) in
    let q = ap (option_map (late_fault rule.Earlier c.args.table c.args.item c.args.place)) (sym c.late_operand.ensures.answer ∙ c.in-None.is) in
    search rules
