use Rattle.std.proofs.Common.{refl, sym, ap, ◌∙◌, subst}
use Rattle.std.specs.List.{slice_get}
use Rattle.rules.specs.Module.{Body, Module}
use Rattle.draft.specs.State.{state}
use Rattle.arena.specs.Viewing.{viewed}
use Rattle.tables.specs.Tables.{types_nodes, filters_nodes, functions_nodes, expressions_nodes, inner_nodes}
use Rattle.walk.specs.Rule.{OperandsEarlier}
use Rattle.seal.specs.Sealed.{sealed_records}
use Rattle.sealed_walk.specs.declared.walking.DraftTable.TheVariants as table
use Rattle.rules.proofs.Passing.{all_left, all_right}
use Rattle.sealed_walk.proofs.Found.{shows, found_earlier, found_nodes, walked_table, walked_found}
use Rattle.sealed_walk.proofs.walking.walk_sealed.Goals as goal

pub walk-requires : goal.walk-requires
walk-requires g c κs =
    let nodes = c.new.ensures ∙ ap types_nodes (shows c.args.sealed c.requires (viewed c.view-view.result) c.view-view.ensures) in
    ((refl, tt), subst OperandsEarlier (sym nodes) c.requires.earlier.types)

pub walk-requires-in-Filters : goal.walk-requires-in-Filters
walk-requires-in-Filters g c κs =
    let nodes = c.new-in-Filters.ensures ∙ ap filters_nodes (shows c.args.sealed c.requires (viewed c.view-view.result) c.view-view.ensures) in
    ((refl, tt), subst OperandsEarlier (sym nodes) c.requires.earlier.filters)

pub walk-requires-in-Functions : goal.walk-requires-in-Functions
walk-requires-in-Functions g c κs =
    let nodes = c.new-in-Functions.ensures ∙ ap functions_nodes (shows c.args.sealed c.requires (viewed c.view-view.result) c.view-view.ensures) in
    ((refl, tt), subst OperandsEarlier (sym nodes) c.requires.earlier.functions)

pub walk-requires-in-GlobalExpressions : goal.walk-requires-in-GlobalExpressions
walk-requires-in-GlobalExpressions g c κs =
    let nodes = c.new-in-GlobalExpressions.ensures ∙ ap expressions_nodes (shows c.args.sealed c.requires (viewed c.view-view.result) c.view-view.ensures) in
    ((refl, tt), subst OperandsEarlier (sym nodes) c.requires.earlier.expressions)

pub walk_body-requires : goal.walk_body-requires
walk_body-requires g c =
    let m = (state (sealed_records c.args.sealed)).built in
    let P = λ (b : Body). OperandsEarlier (inner_nodes b) in
    let whole = shows c.args.sealed c.requires (viewed c.view-view.result) c.view-view.ensures in
    found_earlier c.numbered_body-body.result m.functions c.in-Function.number (c.numbered_body-body.ensures ∙ ap (λ (n : Module). slice_get n.functions c.in-Function.number) whole) (all_left P m.functions m.entries c.requires.earlier.bodies)

pub walk_body-requires-in-EntryPoint : goal.walk_body-requires-in-EntryPoint
walk_body-requires-in-EntryPoint g c =
    let m = (state (sealed_records c.args.sealed)).built in
    let P = λ (b : Body). OperandsEarlier (inner_nodes b) in
    let whole = shows c.args.sealed c.requires (viewed c.view-view.result) c.view-view.ensures in
    found_earlier c.numbered_body-body-in-EntryPoint.result m.entries c.in-EntryPoint.number (c.numbered_body-body-in-EntryPoint.ensures ∙ ap (λ (n : Module). slice_get n.entries c.in-EntryPoint.number) whole) (all_right P m.functions m.entries c.requires.earlier.bodies)

pub returns-in-Types : goal.returns-in-Types
returns-in-Types g c =
    let m = (state (sealed_records c.args.sealed)).built in
    let nodes = c.new.ensures ∙ ap types_nodes (shows c.args.sealed c.requires (viewed c.view-view.result) c.view-view.ensures) in
    walked_table (g.R.Reading.steps c.args.reading.now) m c.args.table c.args.values.now c.walk.new.values c.walk.result table.Types _ (types_nodes m) c.in-Types.is nodes refl c.walk.ensures.walked

pub returns-in-Filters : goal.returns-in-Filters
returns-in-Filters g c =
    let m = (state (sealed_records c.args.sealed)).built in
    let nodes = c.new-in-Filters.ensures ∙ ap filters_nodes (shows c.args.sealed c.requires (viewed c.view-view.result) c.view-view.ensures) in
    walked_table (g.R.Reading.steps c.args.reading.now) m c.args.table c.args.values.now c.walk-in-Filters.new.values c.walk-in-Filters.result table.Filters _ (filters_nodes m) c.in-Filters.is nodes refl c.walk-in-Filters.ensures.walked

pub returns-in-Functions : goal.returns-in-Functions
returns-in-Functions g c =
    let m = (state (sealed_records c.args.sealed)).built in
    let nodes = c.new-in-Functions.ensures ∙ ap functions_nodes (shows c.args.sealed c.requires (viewed c.view-view.result) c.view-view.ensures) in
    walked_table (g.R.Reading.steps c.args.reading.now) m c.args.table c.args.values.now c.walk-in-Functions.new.values c.walk-in-Functions.result table.Functions _ (functions_nodes m) c.in-Functions.is nodes refl c.walk-in-Functions.ensures.walked

pub returns-in-GlobalExpressions : goal.returns-in-GlobalExpressions
returns-in-GlobalExpressions g c =
    let m = (state (sealed_records c.args.sealed)).built in
    let nodes = c.new-in-GlobalExpressions.ensures ∙ ap expressions_nodes (shows c.args.sealed c.requires (viewed c.view-view.result) c.view-view.ensures) in
    walked_table (g.R.Reading.steps c.args.reading.now) m c.args.table c.args.values.now c.walk-in-GlobalExpressions.new.values c.walk-in-GlobalExpressions.result table.GlobalExpressions _ (expressions_nodes m) c.in-GlobalExpressions.is nodes refl c.walk-in-GlobalExpressions.ensures.walked

pub returns-in-Function : goal.returns-in-Function
returns-in-Function g c =
    let m = (state (sealed_records c.args.sealed)).built in
    let whole = shows c.args.sealed c.requires (viewed c.view-view.result) c.view-view.ensures in
    let found = found_nodes c.numbered_body-body.result _ (c.numbered_body-body.ensures ∙ ap (λ (n : Module). slice_get n.functions c.in-Function.number) whole) in
    walked_found (g.R.Reading.steps c.args.reading.now) m c.args.table c.args.values.now c.walk_body.new.values c.walk_body.result (table.Function c.in-Function.number) _ c.in-Function.is found c.walk_body.ensures

pub returns-in-EntryPoint : goal.returns-in-EntryPoint
returns-in-EntryPoint g c =
    let m = (state (sealed_records c.args.sealed)).built in
    let whole = shows c.args.sealed c.requires (viewed c.view-view.result) c.view-view.ensures in
    let found = found_nodes c.numbered_body-body-in-EntryPoint.result _ (c.numbered_body-body-in-EntryPoint.ensures ∙ ap (λ (n : Module). slice_get n.entries c.in-EntryPoint.number) whole) in
    walked_found (g.R.Reading.steps c.args.reading.now) m c.args.table c.args.values.now c.walk_body-in-EntryPoint.new.values c.walk_body-in-EntryPoint.result (table.EntryPoint c.in-EntryPoint.number) _ c.in-EntryPoint.is found c.walk_body-in-EntryPoint.ensures
