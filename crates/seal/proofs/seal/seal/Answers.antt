use Rattle.std.proofs.Common.{rules, ◌≡◌, true, List, None, refl, sym, ap, ◌∙◌}
use Rattle.std.specs.Option.{option_map}
use Rattle.rules.specs.declared.faults.Rejection.TheVariants.{Faulty}
use Rattle.rules.specs.Fault.{first}
use Rattle.rules.specs.Check.{check}
use Rattle.rules.specs.Module.{Record}
use Rattle.draft.specs.State.{state}
use Rattle.arena.specs.Memory.{records}
use Rattle.arena.specs.Viewing.{finished}
use Rattle.items.specs.Whole.{module_of}
use Rattle.valid.specs.Module.{shown_module}
use Rattle.valid.specs.Check.{verdict_of}
use Rattle.sealing.specs.Seal.{seal_tests}
use Rattle.sealing.specs.Once.{seal_once_tests}
use Rattle.sealing.proofs.Promised.{sealed_earlier}
use Rattle.promises.proofs.Promises.{sealed_promises}
use Rattle.seal.proofs.Sealing.{laws_hold, refused_too, passes, answered, accepted, module_same, tests_same}
use Rattle.seal.proofs.seal.seal.Goals as goal
use Rattle.seal.proofs.seal.seal.Goals.{In_ok-check}

pub returns-in_default-clause-laws : goal.returns-in_default-clause-laws
returns-in_default-clause-laws c = laws_hold (records c.args.draft.now c.args.bytes.now c.args.slots.now) c.requires.accepted

pub returns-in_err-check-clause-laws : goal.returns-in_err-check-clause-laws
returns-in_err-check-clause-laws c = laws_hold (records c.args.draft.now c.args.bytes.now c.args.slots.now) c.requires.accepted

pub returns-in_err-seal_module-clause-laws : goal.returns-in_err-seal_module-clause-laws
returns-in_err-seal_module-clause-laws c = laws_hold (records c.args.draft.now c.args.bytes.now c.args.slots.now) c.requires.accepted

pub returns-clause-laws : goal.returns-clause-laws
returns-clause-laws c = laws_hold (records c.args.draft.now c.args.bytes.now c.args.slots.now) c.requires.accepted

pub returns-in_err-check-clause-answer : goal.returns-in_err-check-clause-answer
returns-in_err-check-clause-answer c =
    let m = records c.args.draft.now c.args.bytes.now c.args.slots.now in
    let stop = refused_too (state m) _ (ap (λ l. verdict_of (state l)) (sym c.view-view.ensures.shows) ∙ sym (c.in_err-check.ensures {u = tt}).answer) in
    search rules

module _ (c : In_ok-check) where
  abbrev m : List Record
  m = records c.args.draft.now c.args.bytes.now c.args.slots.now

  done : finished (state m) ≡ true
  done = ap (λ l. finished (state l)) (sym c.view-view.ensures.shows) ∙ (c.in-Some.ensures {u = tt}).0

  none : verdict_of (state m) ≡ None
  none = ap (λ l. verdict_of (state l)) (sym c.view-view.ensures.shows) ∙ sym (c.in_ok-check.ensures {u = tt}).answer

  shows : shown_module c.in-Some.«module» ≡ module_of m
  shows = (c.in-Some.ensures {u = tt}).1 ∙ ap module_of c.view-view.ensures.shows

  checked : check (shown_module c.in-Some.«module») ≡ None
  checked = ap check (shows ∙ module_same m c.requires.accepted done) ∙ passes (state m) done none

  tests : first (seal_once_tests (shown_module c.in-Some.«module»)) ≡ first (seal_tests (state m).built)
  tests = ap (λ n. first (seal_once_tests n)) shows ∙ tests_same m c.requires.accepted done

pub seal_module-requires : goal.seal_module-requires
seal_module-requires c = checked (goal.at.seal_module-requires c).In_ok-check

pub returns-in_err-seal_module-clause-answer : goal.returns-in_err-seal_module-clause-answer
returns-in_err-seal_module-clause-answer c =
    let at = (goal.at.returns-in_err-seal_module-clause-answer c).In_ok-check in
    let stop = answered (state (m at)) (done at) (none at) ∙ ap (option_map Faulty) (sym (tests at) ∙ sym (c.in_err-seal_module.ensures {u = tt})) in
    search rules

pub returns-clause-answer : goal.returns-clause-answer
returns-clause-answer c =
    let at = (goal.at.returns-clause-answer c).In_ok-check in
    sym (answered (state (m at)) (done at) (none at) ∙ ap (option_map Faulty) (sym (tests at) ∙ sym (c.in_ok-seal_module.ensures {u = tt})))

pub returns-clause-sealed : goal.returns-clause-sealed
returns-clause-sealed c =
    let at = (goal.at.returns-clause-sealed c).In_ok-check in
    let passed = sym (tests at) ∙ sym (c.in_ok-seal_module.ensures {u = tt}) in
    let accepts = answered (state (m at)) (done at) (none at) ∙ ap (option_map Faulty) passed in
    record {
      draft_is = refl;
      bytes_are = refl;
      slots_are = refl;
      stands = c.requires;
      accepted = accepts;
      earlier = sealed_earlier (state (m at)).built (accepted (state (m at)) (done at) (none at) passed);
      promises = sealed_promises (m at) c.requires.accepted accepts;
    }

pub returns-clause-readable : goal.returns-clause-readable
returns-clause-readable c = returns-clause-sealed c
