use Rattle.std.proofs.Common.{◌≡◌, Some, refl, sym, ap, ◌∙◌, arith}
use Rattle.std.proofs.lemmas.Option.{slice_get_read}
use Rattle.node.specs.Nodes.{operand_of, operands_at}
use Rattle.walk.proofs.Rules.{operand_below, takes_more}
use Rattle.walk.proofs.walk.item_value.Goals as goal

-- the value of one operand more is taken
pub loop-place-preserved : goal.loop-place-preserved
loop-place-preserved g c =
    let s = g.R.Reading.steps c.args.reading.now in
    let nodes = g.T.NodeTable.nodes c.operand_count.new.self in
    let same : g.T.NodeTable.nodes c.loop-place.table ≡ nodes = c.loop-place.invariant.0 in
    let first : nodes ≡ g.T.NodeTable.nodes c.args.table.now = c.operand_count.ensures.same ∙ c.record.ensures.same in
    let here : operand_of nodes c.args.item c.loop-place.place ≡ Some c.unwrap-operand.result = sym (ap (λ ns. operand_of ns c.args.item c.loop-place.place) same) ∙ sym c.operand.ensures.answer ∙ c.unwrap-operand.ensures in
    let below = operand_below (g.T.NodeTable.nodes c.args.table.now) c.requires.earlier c.args.item c.requires.inside c.loop-place.place c.unwrap-operand.result (sym (ap (λ ns. operand_of ns c.args.item c.loop-place.place) first) ∙ here) in
    let value = slice_get_read c.args.values.now _ c.unwrap-operand.result c.index-values-operand.result refl (omega (arith, below, c.requires.places)) c.index-values-operand.is in (
      c.operand.ensures.same ∙ same,
      c.loop-place.invariant.1,
      omega arith,
      takes_more s c.args.values.now c.start-running.result (operands_at nodes c.args.item) c.loop-place.place c.unwrap-operand.result c.index-values-operand.result c.loop-place.running c.take-running.result here value c.loop-place.invariant.3 c.take-running.ensures,
    )
