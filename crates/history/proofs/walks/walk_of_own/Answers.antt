use Rattle.std.proofs.Common.{refl, sym, ◌∙◌, subst}
use Rattle.walk.specs.Rule.{OperandsEarlier}
use Rattle.history.proofs.Walking.{tested_earlier}
use Rattle.history.proofs.walks.walk_of_own.Goals as goal

pub walk-requires : goal.walk-requires
walk-requires g c κs =
    ((refl, tt), subst OperandsEarlier (sym c.late_in.ensures.same) (tested_earlier (g.T.NodeTable.nodes c.args.table.now) (sym c.late_in.ensures.answer ∙ c.in_default.is)))
