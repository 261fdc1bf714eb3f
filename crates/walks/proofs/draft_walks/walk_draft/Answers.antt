use Rattle.std.proofs.Common.{refl, sym, ap, ◌∙◌, subst}
use Rattle.std.specs.List.{AllByRecursion}
use Rattle.rules.specs.Module.{Body, Module}
use Rattle.draft.specs.State.{state}
use Rattle.arena.specs.Viewing.{viewed}
use Rattle.tables.specs.Tables.{types_nodes, filters_nodes, functions_nodes, expressions_nodes, inner_nodes}
use Rattle.walk.specs.Rule.{OperandsEarlier}
use Rattle.seal.specs.Sealed.{sealed_records}
use Rattle.rules.proofs.Passing.{all_left, all_right}
use Rattle.sealed_walk.proofs.Found.{shows}
use Rattle.walks.specs.Both.{AreBoth, EachWalked}
use Rattle.walks.proofs.draft_walks.walk_draft.Goals as goal

pub walk_both-requires : goal.walk_both-requires
walk_both-requires c κs =
    let nodes = c.new.ensures ∙ ap types_nodes (shows c.args.sealed.now c.requires (viewed c.view-view.result) c.view-view.ensures) in
    ((refl, tt), subst OperandsEarlier (sym nodes) c.requires.earlier.types)

pub walk_both-requires-2 : goal.walk_both-requires-2
walk_both-requires-2 c κs =
    let nodes = c.new-2.ensures ∙ ap filters_nodes (shows c.args.sealed.now c.requires (viewed c.view-view.result) c.view-view.ensures) in
    ((refl, tt), subst OperandsEarlier (sym nodes) c.requires.earlier.filters)

pub walk_both-requires-3 : goal.walk_both-requires-3
walk_both-requires-3 c κs =
    let nodes = c.new-3.ensures ∙ ap functions_nodes (shows c.args.sealed.now c.requires (viewed c.view-view.result) c.view-view.ensures) in
    ((refl, tt), subst OperandsEarlier (sym nodes) c.requires.earlier.functions)

pub walk_both-requires-4 : goal.walk_both-requires-4
walk_both-requires-4 c κs =
    let nodes = c.new-4.ensures ∙ ap expressions_nodes (shows c.args.sealed.now c.requires (viewed c.view-view.result) c.view-view.ensures) in
    ((refl, tt), subst OperandsEarlier (sym nodes) c.requires.earlier.expressions)

pub walk_bodies-requires : goal.walk_bodies-requires
walk_bodies-requires c =
    let m = (state (sealed_records c.args.sealed.now)).built in
    let P = λ (b : Body). OperandsEarlier (inner_nodes b) in
    let whole = shows c.args.sealed.now c.requires (viewed c.view-view.result) c.view-view.ensures in
    subst (λ (n : Module). AllByRecursion P n.functions) (sym whole) (all_left P m.functions m.entries c.requires.earlier.bodies)

pub walk_bodies-requires-2 : goal.walk_bodies-requires-2
walk_bodies-requires-2 c =
    let m = (state (sealed_records c.args.sealed.now)).built in
    let P = λ (b : Body). OperandsEarlier (inner_nodes b) in
    let whole = shows c.args.sealed.now c.requires (viewed c.view-view.result) c.view-view.ensures in
    subst (λ (n : Module). AllByRecursion P n.entries) (sym whole) (all_right P m.functions m.entries c.requires.earlier.bodies)

pub returns : goal.returns
returns c =
    let whole = shows c.args.sealed.now c.requires (viewed c.view-view.result) c.view-view.ensures in
    record {
      of_types = subst (λ ns. AreBoth ns c.in_ok-walk_both.field-0) (c.new.ensures ∙ ap types_nodes whole) (c.in_ok-walk_both.ensures {u = tt});
      of_filters = subst (λ ns. AreBoth ns c.in_ok-walk_both-2.field-0) (c.new-2.ensures ∙ ap filters_nodes whole) (c.in_ok-walk_both-2.ensures {u = tt});
      of_functions = subst (λ ns. AreBoth ns c.in_ok-walk_both-3.field-0) (c.new-3.ensures ∙ ap functions_nodes whole) (c.in_ok-walk_both-3.ensures {u = tt});
      of_globals = subst (λ ns. AreBoth ns c.in_ok-walk_both-4.field-0) (c.new-4.ensures ∙ ap expressions_nodes whole) (c.in_ok-walk_both-4.ensures {u = tt});
      of_function_bodies = subst (λ (n : Module). EachWalked n.functions c.in_ok-walk_bodies.field-0.items) whole (c.in_ok-walk_bodies.ensures {u = tt});
      of_entry_bodies = subst (λ (n : Module). EachWalked n.entries c.in_ok-walk_bodies-2.field-0.items) whole (c.in_ok-walk_bodies-2.ensures {u = tt});
    }
