use Rattle.std.proofs.Common.{◌≤◌, ◌≡◌, List, length, take, Some, ap, ◌∙◌, arith}
use Rattle.std.proofs.lemmas.Grind.{common_steps}
use Rattle.draft.specs.State.{state}
use Rattle.arena.specs.Viewing.{viewed}
use Rattle.node.specs.Nodes.{Node}
use Rattle.seal.specs.Sealed.{sealed_records}
use Rattle.sealed_walk.specs.Walking.{nodes_of}
use Rattle.sealed_walk.proofs.Found.{shows}
use Rattle.walks.proofs.Few.{nodes_few}
use Rattle.walks.proofs.FirstValues.{first_values, no_body}
use Rattle.walks.proofs.one_walk.walk_one.Goals as goal

pub returns-in-Ok : goal.returns-in-Ok
returns-in-Ok g c =
    let h = c.truncate.ensures.items in
    let k = c.as_mut_slice.ensures.value in
    let l = c.in_ok-values.ensures {u = tt} in
    let o = c.walk_sealed.auto.values in
    let cut : c.truncate.new.self.items ≡ take c.in-Ok.tally.items c.walk_sealed.new.values = grind (arith, common_steps, h) in
    first_values (g.R.Reading.steps c.args.reading.now) c.as_mut_slice.result.now c.walk_sealed.new.values (nodes_of c.args.table (state (sealed_records c.args.sealed)).built) c.in-Ok.tally c.truncate.new.self.items (c.in-Ok.ensures {u = tt}) cut

pub returns-in-Err : goal.returns-in-Err
returns-in-Err g c =
    let m = viewed c.view.result in
    let built = (state (sealed_records c.args.sealed)).built in
    let same = shows c.args.sealed c.requires m c.view.ensures in
    let enough = λ (nodes : List Node) (e : nodes_of c.args.table built ≡ Some nodes).
    let few = nodes_few m c.args.table nodes (ap (nodes_of c.args.table) same ∙ e) in
    let room : length nodes ≤ length c.as_mut_slice.result.now = let l = c.in_ok-values.ensures {u = tt} in omega (arith, c.as_mut_slice.ensures.len, l.len) in
    room in
    no_body (g.R.Reading.steps c.args.reading.now) c.as_mut_slice.result.now c.walk_sealed.new.values (nodes_of c.args.table built) c.in-Err.refusal enough (c.in-Err.ensures {u = tt})
