use Rattle.std.proofs.Common.{sym, ◌∙◌}
use Rattle.tables.specs.Entering.{node_entered}
use Rattle.tables.specs.Cursor.{cursor_nodes}
use Rattle.tables.proofs.Entering.{found_at, not_found, operand_in, operand_past}
use Rattle.tables.proofs.cursor.Cursor.operand.Goals as goal

pub returns-in_err-entered-clause-gives : goal.returns-in_err-entered-clause-gives
returns-in_err-entered-clause-gives c =
    let s = c.args.self.now in
    c.from_residual.ensures ∙ sym (operand_past (cursor_nodes s) c.args.number c.args.place (not_found s c.args.number c.in_err-entered.ensures.finds))

pub returns-in_err-operand-clause-gives : goal.returns-in_err-operand-clause-gives
returns-in_err-operand-clause-gives c =
    let s = c.args.self.now in
    let e = c.in_ok-entered.entered in
    c.from_residual-in_err-operand.ensures ∙ c.in_err-operand.ensures.gives ∙ sym (operand_in (cursor_nodes s) c.args.number c.args.place (node_entered e) (found_at s c.args.number e c.in_ok-entered.ensures.finds))

pub returns-clause-gives : goal.returns-clause-gives
returns-clause-gives c =
    let s = c.args.self.now in
    let e = c.in_ok-entered.entered in
    c.in_ok-operand.ensures.gives ∙ sym (operand_in (cursor_nodes s) c.args.number c.args.place (node_entered e) (found_at s c.args.number e c.in_ok-entered.ensures.finds))
