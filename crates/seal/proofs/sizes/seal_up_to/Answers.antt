use Rattle.std.proofs.Common.{rules, ◌≡◌, ◌+◌, ◌∷◌, suc, max, drop, sym, ◌∙◌, arith}
use Rattle.std.proofs.lemmas.Bool.{some_since}
use Rattle.std.proofs.lemmas.Option.{MatchOption-at_some}
use Rattle.rules.specs.Once.{unmet}
use Rattle.rules.proofs.Firsts.{item_passed, item_stopped}
use Rattle.items.specs.Item.{shown, items_left}
use Rattle.valid.specs.Module.{shown_module}
use Rattle.valid.proofs.Waiting.{some_left, unmet_more}
use Rattle.sealing.specs.Seal.{waited_tests}
use Rattle.seal.specs.Breach.{breached}
use Rattle.seal.proofs.sizes.seal_up_to.Goals as goal
use Rattle.seal.proofs.sizes.seal_up_to.Goals.{After-seal_types_named}

pub unwrap-expression-requires : goal.unwrap-expression-requires
unwrap-expression-requires c =
    let m = shown_module c.args.«module» in
    let t = c.loop-rest-test.true in
    some_since c.next.result _ _ c.next.ensures.steps (λ p. some_left m c.loop-rest.rest.first c.args.init t c.requires.within (sym c.loop-rest.invariant.0 ∙ p.0))

-- the expression that is next
next : (c : After-seal_types_named) → (unmet (shown_module c.args.«module») c.loop-rest.rest.first c.args.init ≡ shown c.unwrap-expression.result ∷ unmet (shown_module c.args.«module») (c.loop-rest.rest.first + 1) c.args.init) × (items_left c.next.new.self ≡ drop (c.loop-rest.rest.first + 1) (shown_module c.args.«module»).expressions)
next c = unmet_more (shown_module c.args.«module») c.loop-rest.rest.first c.args.init c.loop-rest-test.true c.requires.within (shown c.unwrap-expression.result) (items_left c.next.new.self) (sym c.loop-rest.invariant.0 ∙ MatchOption-at_some _ _ c.unwrap-expression.result c.unwrap-expression.ensures c.next.ensures.steps)

pub loop-rest-preserved : goal.loop-rest-preserved
loop-rest-preserved c =
    let n = next (goal.at.loop-rest-preserved c).After-seal_types_named in
    let k = c.loop-rest.rest.first in
    let t = c.loop-rest-test.true in
    let top : max (suc c.args.init) (k + 1) ≡ max (suc c.args.init) k = omega arith in
    let none = sym (c.in_ok-seal_types_named.ensures {u = tt}) in
    (n.1, c.loop-rest.invariant.1 ∙ item_passed (shown c.unwrap-expression.result) _ _ n.0 (waited_tests (shown_module c.args.«module») c.args.ty c.args.place) none, top ∙ c.loop-rest.invariant.2)

pub returns-in_err-seal_types_named-clause-tested : goal.returns-in_err-seal_types_named-clause-tested
returns-in_err-seal_types_named-clause-tested c =
    let n = next (goal.at.returns-in_err-seal_types_named-clause-tested c).After-seal_types_named in
    let some = sym (c.in_err-seal_types_named.ensures {u = tt}) in
    let stop = c.loop-rest.invariant.1 ∙ item_stopped (shown c.unwrap-expression.result) _ _ n.0 (waited_tests (shown_module c.args.«module») c.args.ty c.args.place) (breached c.in_err-seal_types_named.field-0.0) some in
    search rules
