use Rattle.std.proofs.Common.{[], ◌∷◌, ◌++◌, map, refl, sym, ap, ◌∙◌, subst, append_assoc}
use Rattle.std.specs.List.{AllByRecursion}
use Rattle.rules.specs.Module.{Body}
use Rattle.rules.proofs.Passing.{all_right}
use Rattle.arena.specs.Viewing.{viewed}
use Rattle.items.specs.Item.{shown, items_left}
use Rattle.items.specs.Whole.{body_of}
use Rattle.tables.specs.Tables.{inner_nodes}
use Rattle.walk.specs.Rule.{OperandsEarlier}
use Rattle.walks.specs.Both.{AreBoth, EachWalked}
use Rattle.walks.proofs.Pushed.{one_walked}
use Rattle.walks.proofs.bodies.walk_bodies.Goals as goal

pub walk_both-requires : goal.walk_both-requires
walk_both-requires c κs =
    let body = body_of (viewed c.args.view) in
    let inv = c.loop-opener.invariant.2 in
    let P = λ (b : Body). OperandsEarlier (inner_nodes b) in
    let next = inv.2 ∙ ap (λ l. inv.0 ++ map body l) (c.in-Some.ensures {u = tt}).steps in
    let here = (all_right P inv.0 (body (shown c.in-Some.opener) ∷ map body (items_left c.next.new.self)) (subst (AllByRecursion P) next c.requires)).0 in
    let nodes = c.new-expressions.ensures ∙ ap inner_nodes c.of.ensures in
    ((refl, tt), subst OperandsEarlier (sym nodes) here)

pub loop-opener-preserved : goal.loop-opener-preserved
loop-opener-preserved c =
    let body = body_of (viewed c.args.view) in
    let b = body (shown c.in-Some.opener) in
    let left = map body (items_left c.next.new.self) in
    let inv = c.loop-opener.invariant.2 in
    let next = inv.2 ∙ ap (λ l. inv.0 ++ map body l) (c.in-Some.ensures {u = tt}).steps in
    let nodes = c.new-expressions.ensures ∙ ap inner_nodes c.of.ensures in
    let both = subst (λ ns. AreBoth ns c.in_ok-walk_both.field-0) nodes (c.in_ok-walk_both.ensures {u = tt}) in
    let walked = one_walked inv.0 c.loop-opener.walks.items b c.in_ok-walk_both.field-0 inv.1 both in
    (tt, tt, (inv.0 ++ b ∷ [], subst (EachWalked (inv.0 ++ b ∷ [])) (sym (c.in_ok-push.ensures {u = tt}).items) walked, next ∙ sym (append_assoc inv.0 (b ∷ []) left)))
