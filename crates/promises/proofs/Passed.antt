-- What passes where sealing answers no fault.
use Rattle.std.proofs.Common.{◌≡◌, Bool, true, false, cond, List, flat_map, Some, None, Option, sym, refl, subst}
use Rattle.std.specs.Option.{option_to_list, is_none, option_map}
use Rattle.std.proofs.lemmas.Bool.{and_parts}
use Rattle.rules.specs.declared.faults.Rule.TheVariants as rule
use Rattle.rules.specs.declared.faults.Fault.{Fault}
use Rattle.rules.specs.declared.faults.Rejection.TheVariants.{Unfinished, Faulty}
use Rattle.rules.specs.Module.{Record, Module}
use Rattle.rules.specs.Sizes.{sizes}
use Rattle.rules.specs.Fault.{own_inside, numbered}
use Rattle.rules.specs.Check.{const_expression_tests, type_tests, body_tests, entry_tests, special_tests, filter_tests, later_tests, check_tests}
use Rattle.rules.specs.Verdict.{AllHold}
use Rattle.rules.proofs.Passing.{hold_from_none, hold_left, hold_right}
use Rattle.draft.specs.declared.state.BodyKind.{BodyKind}
use Rattle.draft.specs.State.{start, state}
use Rattle.draft.specs.Admitted.{Accepted}
use Rattle.arena.specs.Viewing.{finished}
use Rattle.items.proofs.Whole.{module_is}
use Rattle.sealing.specs.Seal as seals
use Rattle.sealing.specs.Seal.{seal, seal_of, all_tests, seal_tests, in_bodies_only, ty_tests, argument_tests, compare_tests}
use Rattle.promises.proofs.Made.{ModuleMade, module_made}

-- the tests of a module, one list after the other

pub record ModulePassed (m : Module) : Type 0 where
  pub types : AllHold (numbered (type_tests m) m.types)
  pub consts : AllHold (numbered (const_expression_tests m) m.expressions)
  pub constants : AllHold (flat_map (own_inside rule.Inside (sizes m)) m.constants)
  pub overrides : AllHold (flat_map (own_inside rule.Inside (sizes m)) m.overrides)
  pub globals : AllHold (flat_map (own_inside rule.Inside (sizes m)) m.globals)
  pub entries : AllHold (flat_map (entry_tests (sizes m)) m.entries)
  pub functions : AllHold (numbered (λ f. body_tests (sizes m) (Some f)) m.functions)
  pub special : AllHold (flat_map (special_tests (sizes m)) (option_to_list m.special))
  pub filters : AllHold (numbered filter_tests m.filters)
  pub leaf : AllHold (flat_map (own_inside rule.Inside (sizes m)) (option_to_list m.leaf))
  pub expressions : AllHold (numbered (seals.global_tests (sizes m)) m.expressions)
  pub sized : AllHold (numbered (seals.pending_tests m) m.types)
  pub sealed_functions : AllHold (flat_map (seals.body_tests (sizes m)) m.functions)
  pub sealed_entries : AllHold (flat_map (seals.body_tests (sizes m)) m.entries)
  pub sealed_special : AllHold (flat_map (seals.special_tests (sizes m)) (option_to_list m.special))
  pub predeclared : AllHold (flat_map (own_inside rule.SealedInside (sizes m)) m.predeclared)
  pub payloads : AllHold (flat_map (seals.payload_tests (sizes m)) m.entries)
  pub compared_functions : AllHold (flat_map (seals.compared_tests (sizes m)) m.functions)
  pub compared_entries : AllHold (flat_map (seals.compared_tests (sizes m)) m.entries)

pub module_passed : (m : Module) → AllHold (all_tests m) → ModulePassed m
module_passed m h =
    let c = hold_left (check_tests m) (seal_tests m) h in
    let s = hold_right (check_tests m) (seal_tests m) h in
    let c1 = hold_right (numbered (type_tests m) m.types) _ c in
    let c2 = hold_right (numbered (const_expression_tests m) m.expressions) (later_tests m) c1 in
    let c3 = hold_right (flat_map (own_inside rule.Inside (sizes m)) m.constants) _ c2 in
    let c4 = hold_right (flat_map (own_inside rule.Inside (sizes m)) m.overrides) _ c3 in
    let c5 = hold_right (flat_map (own_inside rule.Inside (sizes m)) m.globals) _ c4 in
    let c6 = hold_right (flat_map (entry_tests (sizes m)) m.entries) _ c5 in
    let c7 = hold_right (numbered (λ f. body_tests (sizes m) (Some f)) m.functions) _ c6 in
    let c8 = hold_right (flat_map (special_tests (sizes m)) (option_to_list m.special)) _ c7 in
    let s1 = hold_right (numbered (seals.global_tests (sizes m)) m.expressions) _ s in
    let s2 = hold_right (numbered (seals.pending_tests m) m.types) (seals.inner_then_other_tests m) s1 in
    let s3 = hold_right (flat_map (seals.body_tests (sizes m)) m.functions) _ s2 in
    let s4 = hold_right (flat_map (seals.body_tests (sizes m)) m.entries) _ s3 in
    let s5 = hold_right (numbered seals.call_tests m.functions) (seals.other_tests m) s4 in
    let s6 = hold_right (flat_map (seals.special_tests (sizes m)) (option_to_list m.special)) _ s5 in
    let s7 = hold_right (flat_map (own_inside rule.SealedInside (sizes m)) m.predeclared) _ s6 in
    let s8 = hold_right (flat_map (seals.payload_tests (sizes m)) m.entries) _ s7 in
    record {
      types = hold_left (numbered (type_tests m) m.types) _ c;
      consts = hold_left (numbered (const_expression_tests m) m.expressions) (later_tests m) c1;
      constants = hold_left (flat_map (own_inside rule.Inside (sizes m)) m.constants) _ c2;
      overrides = hold_left (flat_map (own_inside rule.Inside (sizes m)) m.overrides) _ c3;
      globals = hold_left (flat_map (own_inside rule.Inside (sizes m)) m.globals) _ c4;
      entries = hold_left (flat_map (entry_tests (sizes m)) m.entries) _ c5;
      functions = hold_left (numbered (λ f. body_tests (sizes m) (Some f)) m.functions) _ c6;
      special = hold_left (flat_map (special_tests (sizes m)) (option_to_list m.special)) _ c7;
      filters = hold_left (numbered filter_tests m.filters) _ c8;
      leaf = hold_right (numbered filter_tests m.filters) _ c8;
      expressions = hold_left (numbered (seals.global_tests (sizes m)) m.expressions) _ s;
      sized = hold_left (numbered (seals.pending_tests m) m.types) (seals.inner_then_other_tests m) s1;
      sealed_functions = hold_left (flat_map (seals.body_tests (sizes m)) m.functions) _ s2;
      sealed_entries = hold_left (flat_map (seals.body_tests (sizes m)) m.entries) _ s3;
      sealed_special = hold_left (flat_map (seals.special_tests (sizes m)) (option_to_list m.special)) _ s5;
      predeclared = hold_left (flat_map (own_inside rule.SealedInside (sizes m)) m.predeclared) _ s6;
      payloads = hold_left (flat_map (seals.payload_tests (sizes m)) m.entries) _ s7;
      compared_functions = hold_left (flat_map (seals.compared_tests (sizes m)) m.functions) _ s8;
      compared_entries = hold_right (flat_map (seals.compared_tests (sizes m)) m.functions) _ s8;
    }

-- a sealed draft is finished, and its tests pass

no_fault : (o : Option Fault) → option_map Faulty o ≡ None → o ≡ None
no_fault None e = refl
no_fault (Some f) e = absurd cc

pub ended : (b : Bool) (o : Option Fault) → cond b (option_map Faulty o) (Some Unfinished) ≡ None → (b ≡ true) × (o ≡ None)
ended true o e = (refl, no_fault o e)
ended false o e = absurd cc

none_open : (o : Option BodyKind) → is_none o ≡ true → o ≡ None
none_open None e = refl
none_open (Some k) e = absurd cc

pub record SealedDraft (m : List Record) : Type 0 where
  pub closed : (state m).opened ≡ None
  pub idle : is_none (state m).waits ≡ true
  pub accepts : seal (state m).built ≡ None
  pub made : ModuleMade (state m).built
  pub passed : ModulePassed (state m).built

pub sealed_draft : (m : List Record) → Accepted start m → seal_of (state m) ≡ None → SealedDraft m
sealed_draft m a e =
    let f = ended (finished (state m)) (seal (state m).built) e in
    let g = and_parts (is_none (state m).opened) (is_none (state m).waits) f.0 in
    let closed = none_open (state m).opened g.0 in
    record {
      closed = closed;
      idle = g.1;
      accepts = f.1;
      made = subst ModuleMade (sym (module_is m a closed)) (module_made m a);
      passed = module_passed (state m).built (hold_from_none (all_tests (state m).built) f.1);
    }
