use Rattle.std.proofs.Common.{ap}
use Rattle.std.specs.Option.{option_map}
use Rattle.node.specs.Nodes.{Node}
use Rattle.tables.proofs.Entering.{found_at, not_found}
use Rattle.tables.proofs.cursor.Cursor.record.Goals as goal

pub returns-in_err-entered-clause-gives : goal.returns-in_err-entered-clause-gives
returns-in_err-entered-clause-gives c = rw c.from_residual.ensures (not_found c.args.self.now c.args.number c.in_err-entered.ensures.finds)

pub returns-clause-gives : goal.returns-clause-gives
returns-clause-gives c = ap (option_map (λ (n : Node). n.bytes)) (found_at c.args.self.now c.args.number c.in_ok-entered.entered c.in_ok-entered.ensures.finds)
