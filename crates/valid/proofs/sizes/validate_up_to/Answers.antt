use Rattle.std.proofs.Common.{rules, ◌≡◌, ◌+◌, ◌∷◌, suc, max, drop, sym, ap, ◌∙◌, arith}
use Rattle.std.proofs.lemmas.Bool.{some_since}
use Rattle.std.proofs.lemmas.Option.{MatchOption-at_some}
use Rattle.rules.specs.Fault.{first, numbered_from}
use Rattle.rules.specs.Check.{sized_tests}
use Rattle.rules.specs.Once.{unmet}
use Rattle.rules.proofs.Firsts.{numbered_passed, numbered_stopped}
use Rattle.items.specs.Item.{shown, items_left}
use Rattle.body.specs.Errors.{invalid_handle}
use Rattle.valid.specs.Module.{shown_module}
use Rattle.valid.proofs.Waiting.{some_left, unmet_more}
use Rattle.valid.proofs.sizes.validate_up_to.Goals as goal
use Rattle.valid.proofs.sizes.validate_up_to.Goals.{After-check_sized}

pub unwrap-expression-requires : goal.unwrap-expression-requires
unwrap-expression-requires c =
    let m = shown_module c.args.«module» in
    let t = c.loop-rest-test.true in
    some_since c.next.result _ _ c.next.ensures.steps (λ p. some_left m c.loop-rest.rest.first c.args.init t c.requires.within (sym c.loop-rest.invariant.0 ∙ p.0))

-- the expression that is next
next : (c : After-check_sized) → (unmet (shown_module c.args.«module») c.loop-rest.rest.first c.args.init ≡ shown c.unwrap-expression.result ∷ unmet (shown_module c.args.«module») (c.loop-rest.rest.first + 1) c.args.init) × (items_left c.next.new.self ≡ drop (c.loop-rest.rest.first + 1) (shown_module c.args.«module»).expressions)
next c = unmet_more (shown_module c.args.«module») c.loop-rest.rest.first c.args.init c.loop-rest-test.true c.requires.within (shown c.unwrap-expression.result) (items_left c.next.new.self) (sym c.loop-rest.invariant.0 ∙ MatchOption-at_some _ _ c.unwrap-expression.result c.unwrap-expression.ensures c.next.ensures.steps)

pub loop-rest-preserved : goal.loop-rest-preserved
loop-rest-preserved c =
    let n = next (goal.at.loop-rest-preserved c).After-check_sized in
    let m = shown_module c.args.«module» in
    let k = c.loop-rest.rest.first in
    let t = c.loop-rest-test.true in
    let later : suc k ≡ k + 1 = omega arith in
    let top : max (suc c.args.init) (k + 1) ≡ max (suc c.args.init) k = omega arith in
    let none = sym (c.in_ok-check_sized.ensures {u = tt}) in
    (n.1, c.loop-rest.invariant.1 ∙ numbered_passed (shown c.unwrap-expression.result) _ _ n.0 (sized_tests m c.args.ty c.args.place) k none ∙ ap (λ j. first (numbered_from (sized_tests m c.args.ty c.args.place) j (unmet m (k + 1) c.args.init))) later, top ∙ c.loop-rest.invariant.2)

pub returns-in_err-check_sized-clause-tested : goal.returns-in_err-check_sized-clause-tested
returns-in_err-check_sized-clause-tested c =
    let n = next (goal.at.returns-in_err-check_sized-clause-tested c).After-check_sized in
    let m = shown_module c.args.«module» in
    let some = sym (c.in_err-check_sized.ensures {u = tt}) in
    let stop = c.loop-rest.invariant.1 ∙ numbered_stopped (shown c.unwrap-expression.result) _ _ n.0 (sized_tests m c.args.ty c.args.place) c.loop-rest.rest.first (invalid_handle c.in_err-check_sized.field-0.0) some in
    search rules
