-- What the answers of the check and of the tests that it leaves out say of a draft.
use Rattle.std.proofs.Common.{◌≡◌, Bool, true, false, cond, List, Some, None, Option, sym, refl, ap, ◌∙◌}
use Rattle.std.specs.Option.{option_map}
use Rattle.std.proofs.lemmas.Bool.{cond-true}
use Rattle.rules.specs.declared.faults.Fault.{Fault}
use Rattle.rules.specs.declared.faults.Rejection.{Rejection}
use Rattle.rules.specs.declared.faults.Rejection.TheVariants.{Unfinished, Faulty}
use Rattle.rules.specs.Module.{Record, Module}
use Rattle.rules.specs.Fault.{first}
use Rattle.rules.specs.Check.{check_tests, check}
use Rattle.rules.proofs.Firsts.{passed, stopped}
use Rattle.draft.specs.State.{State, start, state}
use Rattle.draft.specs.Admitted.{Accepted}
use Rattle.arena.specs.Viewing.{finished}
use Rattle.items.specs.Whole.{module_of}
use Rattle.items.proofs.Whole.{module_is}
use Rattle.valid.specs.Check.{verdict_of}
use Rattle.valid.proofs.Checked.{ended_of}
use Rattle.sealing.specs.Seal.{seal_tests, seal, seal_of}
use Rattle.sealing.specs.Once.{seal_once_tests}
use Rattle.sealing.proofs.Once.{looked_at_once}
use Rattle.sealing.proofs.Promised.{exactly}
use Rattle.sealing.proofs.Faults.{no_other_faults}
use Rattle.sealing.proofs.Kinded.{kinded}
use Rattle.promises.proofs.Passed.{ended}
use Rattle.seal.specs.Sealed.{Laws}

pub laws_hold : (m : List Record) → Accepted start m → Laws (state m).built
laws_hold m a = record { exact = exactly (state m).built; faults = no_other_faults (state m).built (kinded m a) }

-- what the check refuses, sealing refuses with the same fault
faulty_first : (m : Module) (o : Option Fault) → check m ≡ o → (e : Rejection) → option_map Faulty o ≡ Some e → option_map Faulty (seal m) ≡ Some e
faulty_first m None is e h = absurd cc
faulty_first m (Some f) is e h = ap (option_map Faulty) (stopped (check_tests m) (seal_tests m) f is) ∙ h

module _ (s : State) where
  refused_when : (b : Bool) (e : Rejection) → cond b (option_map Faulty (check s.built)) (Some Unfinished) ≡ Some e → cond b (option_map Faulty (seal s.built)) (Some Unfinished) ≡ Some e
  refused_when true e h = faulty_first s.built (check s.built) refl e h
  refused_when false e h = h

  pub refused_too : (e : Rejection) → verdict_of s ≡ Some e → seal_of s ≡ Some e
  refused_too e h = refused_when (finished s) e h

  none_mapped : (o : Option Fault) → option_map Faulty o ≡ None → o ≡ None
  none_mapped None h = refl
  none_mapped (Some f) h = absurd cc

  -- what passes the check is refused by what it leaves out, or sealed
  module _ (done : finished s ≡ true) (none : verdict_of s ≡ None) where
    pub passes : check s.built ≡ None
    passes = none_mapped (check s.built) (sym (cond-true _ _ _ done) ∙ none)

    pub answered : seal_of s ≡ option_map Faulty (first (seal_tests s.built))
    answered = cond-true _ _ _ done ∙ ap (option_map Faulty) (passed (check_tests s.built) (seal_tests s.built) passes)

    pub accepted : first (seal_tests s.built) ≡ None → seal s.built ≡ None
    accepted h = passed (check_tests s.built) (seal_tests s.built) passes ∙ h

-- the module by the places of its items
module _ (m : List Record) (a : Accepted start m) (done : finished (state m) ≡ true) where
  pub module_same : module_of m ≡ (state m).built
  module_same = sym (module_is m a (ended_of (state m) done))

  pub tests_same : first (seal_once_tests (module_of m)) ≡ first (seal_tests (state m).built)
  tests_same = looked_at_once (module_of m) ∙ ap (λ n. first (seal_tests n)) module_same

-- what sealing accepts is finished, and its module is the one by places
module _ (m : List Record) (a : Accepted start m) (e : seal_of (state m) ≡ None) where
  pub done : finished (state m) ≡ true
  done = (ended (finished (state m)) (seal (state m).built) e).0

  pub built_is : module_of m ≡ (state m).built
  built_is = module_same m a done
