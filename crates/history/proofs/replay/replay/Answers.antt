use Rattle.std.proofs.Common.{◌≡◌, ◌<◌, [], ◌++◌, length, get_or, take, drop, Some, None, ap, ◌∙◌, subst, arith}
use native.Mathlib.Nat.{min-le_left, min-le_right}
use Rattle.std.proofs.lemmas.List.{get_or-take, length-take-le}
use Rattle.arena.specs.Memory.{records}
use Rattle.runs.specs.Runs.{run}
use Rattle.runs.proofs.Staying.{numbers_stay}
use Rattle.history.specs.Calls.{outcome_of, kept_by, outcomes, LeftBy, made, made_of, put_by, puts_of}
use Rattle.history.proofs.Replaying.{run_more, answers_more, still_named, one_number_in, each_verdict, each_seal}
use Rattle.history.proofs.Promising.{each_promise}
use Rattle.history.proofs.Leaving.{Left, left_more, each_walk}
use Rattle.history.proofs.replay.replay.Goals as goal

pub loop-place-preserved : goal.loop-place-preserved
loop-place-preserved g c =
    let own = g.T.NodeTable.nodes in
    let steps = g.R.Reading.steps in
    let calls = c.args.calls.now in
    let left = min-le_left (length calls) (length c.args.answers.now) in
    let right = min-le_right (length calls) (length c.args.answers.now) in
    let min : c.min.result ≡ made calls c.args.answers.now = c.min.ensures in
    let all = length-take-le c.min.result calls (omega arith) in
    let inside : c.loop-place.place < c.min.result = omega arith in
    let there : c.loop-place.place < length calls = omega arith in
    let answer : c.loop-place.place < length c.args.answers.now = omega arith in
    let call = c.index-made-place.result in
    let here : call ≡ get_or calls c.loop-place.place call = c.index-made-place.is ∙ get_or-take c.min.result calls c.loop-place.place call inside in
    let m = records c.loop-place.draft c.loop-place.bytes c.loop-place.slots in (
      c.make.ensures.stands,
      answers_more _ _ calls c.loop-place.place call there _ _ c.loop-place.auto.bytes c.loop-place.auto.slots m c.loop-place.invariant.2 own _ _ c.loop-place.auto.values c.args.answers.now _ c.loop-place.invariant.1 answer None _ (ap Some (c.make.ensures.answers ∙ ap (outcome_of own (length c.loop-place.bytes) (length c.loop-place.slots) (length c.loop-place.values) m) here)),
      run_more _ _ calls c.loop-place.place call there _ _ c.loop-place.auto.bytes c.loop-place.auto.slots m c.loop-place.invariant.2 _ (c.make.ensures.keeps ∙ ap (kept_by (length c.loop-place.bytes) (length c.loop-place.slots) m) here),
      left_more own steps _ _ _ calls c.loop-place.place call there m c.loop-place.invariant.2 _ c.loop-place.auto.values c.args.values.now c.loop-place.values c.make.new.values c.loop-place.invariant.3 (subst (λ d. LeftBy own steps (length c.loop-place.values) m d c.loop-place.values c.make.new.values) here c.make.ensures.leaves),
    )

pub returns : goal.returns
returns g c =
    let own = g.T.NodeTable.nodes in
    let steps = g.R.Reading.steps in
    let calls = c.args.calls.now in
    let answers = c.args.answers.now in
    let room = length c.args.bytes.now in
    let places = length c.args.slots.now in
    let count = length c.args.values.now in
    let all : c.loop-place.place ≡ made calls answers = let e = c.min.ensures in let left = min-le_left (length calls) (length answers) in let l = length-take-le c.min.result calls (omega arith) in omega arith in
    let keeps : records c.loop-place.draft c.loop-place.bytes c.loop-place.slots ≡ run room places [] (put_by calls answers) = c.loop-place.invariant.2 ∙ ap (λ n. run room places [] (puts_of (take n calls))) all in
    let law = numbers_stay room places in
    let answered = c.loop-place.invariant.1 ∙ ap (λ n. outcomes own room places count [] (take n calls) ++ drop n answers) all in
    let left = subst (λ n. Left own steps room places count [] (take n calls) c.args.values.now c.loop-place.values) all c.loop-place.invariant.3 in
    record {
      stands = c.loop-place.invariant.0;
      answered = answered;
      keeps = keeps;
      named = still_named _ _ law (put_by calls answers) _ keeps;
      types = one_number_in _ _ law (put_by calls answers);
      verdicts = each_verdict own _ _ count (made_of calls answers) _ _ answered;
      seals = each_seal own _ _ count (made_of calls answers) _ _ answered;
      promises = each_promise room places (made_of calls answers);
      walks = each_walk own steps room places (made_of calls answers) _ _ c.args.values.now c.loop-place.values answered left;
    }
