use Rattle.std.proofs.Common.{◌∷◌, map, Some, None, sym, ap, ◌∙◌}
use Rattle.std.proofs.lemmas.List.{drop-map}
use Rattle.items.specs.Item.{shown, items_left}
use Rattle.tables.specs.Entering.{node_by, nodes_left}
use Rattle.tables.proofs.Going.{skipped}
use Rattle.tables.proofs.cursor.Cursor.enter.Goals as goal

pub returns-in_err-item-clause-finds : goal.returns-in_err-item-clause-finds
returns-in_err-item-clause-finds c =
    let s = c.args.self.now.source in
    let from = c.before-skipped.result in
    let none =
    sym c.before-skipped.ensures
    ∙ drop-map (node_by s) from.1 (items_left from.0)
    ∙ ap (map (node_by s)) (skipped shown items_left from.0 c.nth.new.self from.1 None c.in_err-item.ensures.ran) in
    rw c.from_residual.ensures none

pub invariant_of-self-clause-there : goal.invariant_of-self-clause-there
invariant_of-self-clause-there c =
    let s = c.args.self.now.source in
    let from = c.before-skipped.result in
    let i = c.in_ok-item.item in
    sym c.before-skipped.ensures
    ∙ drop-map (node_by s) from.1 (items_left from.0)
    ∙ ap (map (node_by s)) (skipped shown items_left from.0 c.nth.new.self from.1 (Some i) c.in_ok-item.ensures.ran)
    ∙ ap (λ o. record { bytes = i.«record».bytes.now; operands = o } ∷ nodes_left s c.nth.new.self) (sym c.operands-operands.ensures.gives)
