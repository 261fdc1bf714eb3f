use Rattle.std.proofs.Common.{IfSome, refl, sym, subst}
use Rattle.items.specs.Item.{shown_body}
use Rattle.tables.specs.Tables.{inner_nodes}
use Rattle.walk.specs.Rule.{OperandsEarlier}
use Rattle.sealed_walk.proofs.walking.walk_body.Goals as goal

pub walk-requires : goal.walk-requires
walk-requires g c κs =
    let given = subst (λ o. IfSome o (λ b. OperandsEarlier (inner_nodes (shown_body b)))) c.in-Some.is c.requires in
    ((refl, tt), subst OperandsEarlier (sym c.new.ensures) given)
