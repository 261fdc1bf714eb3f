-- What the tests of the module say of the draft.
use Rattle.std.proofs.Common.{◌≡◌, true, Some, None, Option, sym, refl, ap, ◌∙◌}
use Rattle.std.specs.Option.{is_none, option_map}
use Rattle.std.proofs.lemmas.Bool.{and_parts, cond-true}
use Rattle.rules.specs.declared.faults.Rejection.TheVariants.{Faulty}
use Rattle.rules.specs.Fault.{first}
use Rattle.rules.specs.Check.{check}
use Rattle.rules.specs.Once.{check_once_tests}
use Rattle.rules.proofs.Once.{tested_once}
use Rattle.draft.specs.State.{State, state}
use Rattle.arena.specs.declared.view.View.{View}
use Rattle.arena.specs.Viewing.{viewed, finished}
use Rattle.items.specs.Whole.{module_of}
use Rattle.items.proofs.Whole.{module_is}
use Rattle.valid.specs.declared.module.Module.{Module}
use Rattle.valid.specs.Module.{shown_module}
use Rattle.valid.specs.Check.{verdict_of}

none_is : {X : Type 0} (o : Option X) → is_none o ≡ true → o ≡ None
none_is None e = refl
none_is (Some x) e = absurd cc

pub ended_of : (s : State) → finished s ≡ true → s.opened ≡ None
ended_of s e = none_is s.opened (and_parts (is_none s.opened) (is_none s.waits) e).0

-- the answer of a finished draft
pub answered : (v : View) (m : Module) → (finished (state (viewed v)) ≡ true) × (shown_module m ≡ module_of (viewed v)) → option_map Faulty (first (check_once_tests (shown_module m))) ≡ verdict_of (state (viewed v))
answered v m e =
    let s = state (viewed v) in
    ap (option_map Faulty) (tested_once (shown_module m) ∙ ap check (e.1 ∙ sym (module_is (viewed v) v.stands.accepted (ended_of s e.0))))
    ∙ sym (cond-true _ _ _ e.0)
