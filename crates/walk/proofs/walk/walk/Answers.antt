use Rattle.std.proofs.Common.{◌≡◌, ◌+◌, ◌<◌, length, take, refl, sym, ap, ◌∙◌, subst, arith}
use Rattle.std.specs.List.{slice_get}
use Rattle.std.proofs.lemmas.List.{drop-set-lt, take_all}
use Rattle.std.proofs.lemmas.List.Sums.{sum_by-take-le}
use Rattle.node.specs.Nodes.{Node, operands_at, operands_in_all}
use Rattle.walk.specs.Rule.{OperandsEarlier}
use Rattle.walk.proofs.Rules.{made_next, the_values}
use Rattle.walk.proofs.InAll.{total_next}
use Rattle.walk.proofs.walk.walk.Goals as goal

-- all operands are counted by a usize, and so are those of the items so far
pub item_value-requires : goal.item_value-requires
item_value-requires g c κs =
    let nodes = g.T.NodeTable.nodes c.args.table.now in
    let same : g.T.NodeTable.nodes c.loop-item.table ≡ nodes = c.loop-item.invariant.0 in
    let inside : c.loop-item.item < length nodes = omega arith in
    let few = g.T.NodeTable.few c.args.table.now in
    let next = total_next nodes c.loop-item.item inside in
    let most = sum_by-take-le (λ (n : Node). length n.operands) nodes (c.loop-item.item + 1) in
    let here : length (operands_at (g.T.NodeTable.nodes c.loop-item.table) c.loop-item.item) ≡ length (operands_at nodes c.loop-item.item) = ap (λ ns. length (operands_at ns c.loop-item.item)) same in
    ((refl, tt), (subst (λ ns. c.loop-item.item < length ns) (sym same) inside, (omega arith, (subst (λ ns. OperandsEarlier ns) (sym same) c.requires, (omega arith, omega (arith, few, next, most, here))))))

pub loop-item-preserved : goal.loop-item-preserved
loop-item-preserved g c =
    let nodes = g.T.NodeTable.nodes c.args.table.now in
    let same : g.T.NodeTable.nodes c.loop-item.table ≡ nodes = c.loop-item.invariant.0 in
    let inside : c.loop-item.item < length nodes = omega arith in
    let here : length (operands_at (g.T.NodeTable.nodes c.loop-item.table) c.loop-item.item) ≡ length (operands_at nodes c.loop-item.item) = ap (λ ns. length (operands_at ns c.loop-item.item)) same in
    let next = total_next nodes c.loop-item.item inside in
    let s = g.R.Reading.steps c.args.reading.now in (
      c.item_value.ensures.same ∙ same,
      omega arith,
      omega arith,
      drop-set-lt (length nodes) c.loop-item.values c.loop-item.item c.item_value.result inside ∙ c.loop-item.invariant.3,
      made_next s nodes c.requires c.loop-item.item c.loop-item.values c.item_value.result (omega arith) c.loop-item.invariant.4 (λ n e. c.item_value.ensures.value n (ap (λ ns. slice_get ns c.loop-item.item) same ∙ e)),
    )

pub returns : goal.returns
returns g c =
    let nodes = g.T.NodeTable.nodes c.args.table.now in
    let all : c.loop-item.item ≡ length nodes = omega arith in
    record {
      walked = record {
        places = omega arith;
        values = the_values (g.R.Reading.steps c.args.reading.now) nodes c.requires c.loop-item.values (omega arith) (λ k below. c.loop-item.invariant.4 k (omega arith));
        beyond = c.loop-item.invariant.3;
        items = omega arith;
        takes = c.loop-item.invariant.2 ∙ ap operands_in_all (ap (λ n. take n nodes) all ∙ take_all (length nodes) nodes (omega arith));
      };
      same = c.loop-item.invariant.0;
    }
