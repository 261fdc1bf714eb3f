use Rattle.std.proofs.Common.{rules, tests, length, take, min, ap, ◌∙◌}
use Rattle.std.proofs.lemmas.List.{take_min}
use Rattle.std.proofs.lemmas.Iterator.Consumers.{count_from_yields_List, YieldsList-at}
use Rattle.std.proofs.lemmas.Iterator.Search.{YieldsList-from_take_while}
use Rattle.std.proofs.lemmas.Iterator.Adapters.{YieldsList-from_rev_slice}
use Rattle.arena.specs.Memory.{layout}
use Rattle.arena.specs.Viewing.{viewed}
use Rattle.arena.proofs.Taking.{is_taken, waiting_counted}
use Rattle.arena.proofs.view.View.waiting_count.Goals as goal

pub returns : goal.returns
returns c =
    let slots = take c.min-end.result c.kept_slots-kept.result.now in
    let road = YieldsList-from_take_while _ is_taken (YieldsList-at c.take_while.ensures.source (YieldsList-from_rev_slice slots (cc))) (cc) (cc) (λ x b q k. search (rules, tests)) in
    let n = count_from_yields_List c.take_while.result c.count.result c.count.ensures.ran road in
    n ∙ waiting_counted (viewed c.args.self) c.args.place slots c.args.self.stands.accepted (ap (λ l. take c.min-end.result l) c.kept_slots-kept.ensures ∙ ap (λ n. take n (layout (viewed c.args.self))) (c.min-end.ensures ∙ ap (λ l. min c.args.place (length l)) c.kept_slots-kept.ensures) ∙ take_min c.args.place (layout (viewed c.args.self)))
