use Rattle.std.proofs.Common.{sym, ap}
use Rattle.draft.specs.State.{state}
use Rattle.arena.specs.Memory.{records}
use Rattle.history.specs.Walks.{wanted}
use Rattle.history.proofs.Walking.{lent}
use Rattle.history.proofs.walks.walk_wanted.Goals as goal

pub returns-in-Draft-clause-leaves : goal.returns-in-Draft-clause-leaves
returns-in-Draft-clause-leaves g c =
    let same = ap (wanted g.T.NodeTable.nodes (state (records c.args.draft.now c.args.bytes.now c.args.slots.now))) (sym c.in-Draft.is) in
    lent (g.R.Reading.steps c.args.walk.now.reading.now) c.args.values.now c.walk_of_draft.new.values c.min-places.result c.args.walk.now.places _ _ c.min-places.ensures c.walk_of_draft.auto.values same c.walk_of_draft.ensures.leaves

pub returns-in-Own-clause-leaves : goal.returns-in-Own-clause-leaves
returns-in-Own-clause-leaves g c =
    let same = ap (wanted g.T.NodeTable.nodes (state (records c.args.draft.now c.args.bytes.now c.args.slots.now))) (sym c.in-Own.is) in
    lent (g.R.Reading.steps c.args.walk.now.reading.now) c.args.values.now c.walk_of_own.new.values c.min-places.result c.args.walk.now.places _ _ c.min-places.ensures c.walk_of_own.auto.values same c.walk_of_own.ensures.leaves
