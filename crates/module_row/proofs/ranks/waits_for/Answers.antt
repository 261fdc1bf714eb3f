use Rattle.std.proofs.Common.{◌<◌, length, None, sym, ap, ◌∙◌, subst}
use Rattle.std.specs.List.{AllByRecursion, flat_map}
use Rattle.std.specs.Option.{option_to_list}
use Rattle.rules.specs.Items.{at}
use Rattle.promises.specs.Rows.{above}
use Rattle.module_row.proofs.Inits.{read_at}
use Rattle.module_row.proofs.ranks.waits_for.Goals as goal
use Rattle.module_row.proofs.ranks.waits_for.Goals.{In-Some}

-- the size is inside
within : (c : In-Some) → c.in-Some.size < length c.args.inits.now
within c = (subst (AllByRecursion (λ o. o < length c.args.inits.now)) (sym (c.in-Some.ensures {u = tt})) c.requires).0

pub bounds-inits-size : goal.bounds-inits-size
bounds-inits-size c = within (goal.at.bounds-inits-size c).In-Some

pub returns-in-Some-clause-above : goal.returns-in-Some-clause-above
returns-in-Some-clause-above c =
    let l = within (goal.at.returns-in-Some-clause-above c).In-Some in
    c.waits.ensures.above
    ∙ ap above (sym (read_at option_to_list c.args.inits.now c.in-Some.size None l))
    ∙ ap (λ ns. above (flat_map option_to_list (flat_map (at c.args.inits.now) ns))) (c.in-Some.ensures {u = tt})
