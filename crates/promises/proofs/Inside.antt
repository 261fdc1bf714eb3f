-- Every handle of a sealed module is inside.
use Rattle.std.proofs.Common.{ℕ, List, [], ◌∷◌, length, flat_map, Some, None, Option, refl}
use Rattle.std.specs.Option.{option_to_list}
use Rattle.std.proofs.ByRecursion.{All-weaker}
use Rattle.ir.specs.declared.kinds.Kind.{Kind}
use Rattle.ir.specs.declared.kinds.Kind.TheVariants as kind
use Rattle.records.specs.Handles.{handles_of}
use Rattle.rules.specs.declared.faults.Rule.TheVariants as rule
use Rattle.rules.specs.declared.sizes.Sizes.{Sizes}
use Rattle.rules.specs.Module.{Item, Body, Module}
use Rattle.rules.specs.Sizes.{sizes, sizes_in}
use Rattle.rules.specs.Fault.{Test, all_inside, own_inside, numbered}
use Rattle.rules.specs.Check.{const_expression_tests, type_tests, expression_tests, statement_tests, body_leaf, body_tests, entry_tests, special_tests, filter_tests}
use Rattle.rules.specs.Verdict.{AllHold}
use Rattle.rules.proofs.Passing.{hold_left, hold_right, hold_each}
use Rattle.draft.specs.State.{state}
use Rattle.sealing.specs.Seal as seals
use Rattle.sealing.specs.Seal.{seal, seal_of, all_tests, seal_tests, in_bodies_only, ty_tests, argument_tests, compare_tests}
use Rattle.promises.specs.Inside.{ItemInside, EmitInside, ArgumentInside, BodyInside, ModuleInside, SealedInside}
use Rattle.promises.proofs.Handles.{inside_from_hold}
use Rattle.promises.proofs.Among.{all_in}
use Rattle.promises.proofs.Made.{Made, AType, AnExpression, AStatement, BodyMade, ModuleMade}
use Rattle.promises.proofs.Tested.{All, both, tested_each, tested_all, own_items}
use Rattle.promises.proofs.Globals.{type_inside, ConstTested, global_inside}
use Rattle.promises.proofs.Inner.{inner_inside, types_same, argument_inside, emit_inside, statement_inside}
use Rattle.promises.proofs.Openers.{function_opener, entry_opener, special_inside, filter_inside}
use Rattle.promises.proofs.Passed.{ModulePassed, sealed_draft}

-- a function or an entry point

record BodyPassed (s : Sizes) (b : Body) : Type 0 where
  caller : Option ℕ
  checked : AllHold (body_tests s caller b)
  sealed : AllHold (seals.body_tests s b)
  compared : AllHold (seals.compared_tests s b)

module _ (s : Sizes) (b : Body) (k : Kind) (w : BodyMade k b) (p : BodyPassed s b) where
  abbrev in_body : Sizes
  in_body = sizes_in s b

  leaf_tests : AllHold (all_inside rule.Inside s b.opener.place (body_leaf b.opener))
  leaf_tests = let h = p.checked in search hold_right depth 8

  body_inside : ItemInside s b.opener → BodyInside s b
  body_inside opener =
      let h = p.checked in
      let each : List Item → List Test = λ xs. flat_map (own_inside rule.Inside in_body) xs in
      let arguments : AllHold (each b.arguments) = search hold_left in
      let h1 = hold_right (each b.arguments) _ h in
      let result : AllHold (each (option_to_list b.result)) = hold_left (each (option_to_list b.result)) _ h1 in
      let h2 = hold_right (each (option_to_list b.result)) _ h1 in
      let locals : AllHold (each b.locals) = hold_left (each b.locals) _ h2 in
      let h3 = hold_right (each b.locals) _ h2 in
      let named : AllHold (each b.named) = hold_left (each b.named) _ h3 in
      let h4 = hold_right (each b.named) _ h3 in
      let tests : ℕ → Item → List Test = expression_tests in_body b.opener.place p.caller in
      let expressions : AllHold (numbered tests b.expressions) = hold_left (numbered tests b.expressions) _ h4 in
      let h5 = hold_right (numbered tests b.expressions) _ h4 in
      let statements : AllHold (flat_map (statement_tests in_body) b.statements) = hold_left (flat_map (statement_tests in_body) b.statements) _ h5 in
      let inner = hold_each (seals.inner_tests s (length b.arguments)) b.expressions p.sealed in
      let compared = hold_each (compare_tests in_body) b.statements p.compared in
      record {
        opener = opener;
        arguments = own_items in_body rule.Inside kind.FunctionArgument refl b.arguments w.arguments arguments;
        result = own_items in_body rule.Inside kind.FunctionResult refl (option_to_list b.result) w.result result;
        locals = own_items in_body rule.Inside kind.LocalVariable refl b.locals w.locals locals;
        named = own_items in_body rule.Inside kind.Named refl b.named w.named named;
        expressions =
            tested_all (ItemInside in_body) (λ i. AnExpression i × AllHold (seals.inner_tests s (length b.arguments) i)) tests b.expressions
            (λ n i l q t. inner_inside in_body b.opener.place p.caller n i l q.0 t (types_same s b (handles_of i.bytes) (inside_from_hold rule.SealedInside s i.place (seals.ty_of i) (hold_left (ty_tests s i) (argument_tests (length b.arguments) i) q.1))))
            (both AnExpression (λ i. AllHold (seals.inner_tests s (length b.arguments) i)) b.expressions w.expressions inner) expressions;
        statements =
            tested_each (ItemInside in_body) (λ i. AStatement i × AllHold (compare_tests in_body i)) (statement_tests in_body)
            (λ i q t. statement_inside in_body q.0.0 i q.0.1 q.0.2 t q.1) b.statements
            (both AStatement (λ i. AllHold (compare_tests in_body i)) b.statements w.statements compared) statements;
        emitted = All-weaker (λ i. AllHold (statement_tests in_body i)) (EmitInside (length b.expressions)) (emit_inside in_body) b.statements (hold_each (statement_tests in_body) b.statements statements);
        given =
            All-weaker (λ i. AllHold (seals.inner_tests s (length b.arguments) i)) (ArgumentInside (length b.arguments))
            (λ i t. argument_inside (length b.arguments) i (hold_right (ty_tests s i) (argument_tests (length b.arguments) i) t)) b.expressions inner;
      }

-- bodies that passed, each by its tests in the check and in sealing
bodies_passed : (s : Sizes) (bs : List Body) → All (λ b. (f : Option ℕ) × AllHold (body_tests s f b)) bs → All (λ b. AllHold (seals.body_tests s b)) bs → All (λ b. AllHold (seals.compared_tests s b)) bs → All (BodyPassed s) bs
bodies_passed s [] c h d = tt
bodies_passed s (b ∷ bs) c h d = (record { caller = c.0.0; checked = c.0.1; sealed = h.0; compared = d.0 }, bodies_passed s bs c.1 h.1 d.1)

-- of the bodies whose openers are inside
bodies_inside : (s : Sizes) (k : Kind) (bs : List Body) → All (BodyMade k) bs → All (BodyPassed s) bs → All (λ b. ItemInside s b.opener) bs → All (BodyInside s) bs
bodies_inside s k [] w p o = tt
bodies_inside s k (b ∷ bs) w p o = (body_inside s b k w.0 p.0 o.0, bodies_inside s k bs w.1 p.1 o.1)

module _ (m : Module) (w : ModuleMade m) (p : ModulePassed m) where
  abbrev pub s : Sizes
  s = sizes m

  functions_passed : All (BodyPassed s) m.functions
  functions_passed =
      bodies_passed s m.functions
      (tested_all (λ b. (f : Option ℕ) × AllHold (body_tests s f b)) (λ b. Unit {0}) (λ f. body_tests s (Some f)) m.functions (λ f b l q t. (Some f, t)) (all_in (λ b. Unit {0}) m.functions (λ b h. tt)) p.functions)
      (hold_each (seals.body_tests s) m.functions p.sealed_functions)
      (hold_each (seals.compared_tests s) m.functions p.compared_functions)

  entries_passed : All (BodyPassed s) m.entries
  entries_passed =
      bodies_passed s m.entries
      (All-weaker (λ b. AllHold (entry_tests s b)) (λ b. (f : Option ℕ) × AllHold (body_tests s f b)) (λ b t. (None, hold_left (body_tests s None b) _ t)) m.entries (hold_each (entry_tests s) m.entries p.entries))
      (hold_each (seals.body_tests s) m.entries p.sealed_entries)
      (hold_each (seals.compared_tests s) m.entries p.compared_entries)

  function_openers : (bs : List Body) → All (BodyMade kind.Function) bs → All (BodyPassed s) bs → All (λ b. ItemInside s b.opener) bs
  function_openers [] v q = tt
  function_openers (b ∷ bs) v q = (function_opener s b.opener v.0.opener (leaf_tests s b kind.Function v.0 q.0), function_openers bs v.1 q.1)

  entry_openers : (bs : List Body) → All (BodyMade kind.EntryPoint) bs → All (BodyPassed s) bs → All (λ b. AllHold (entry_tests s b)) bs → All (λ b. AllHold (seals.payload_tests s b)) bs → All (λ b. ItemInside s b.opener) bs
  entry_openers [] v q t u = tt
  entry_openers (b ∷ bs) v q t u = (
    entry_opener s b.opener v.0.opener (leaf_tests s b kind.EntryPoint v.0 q.0) (hold_right (body_tests s None b) _ t.0) u.0,
    entry_openers bs v.1 q.1 t.1 u.1,
  )

  pub module_inside : ModuleInside m
  module_inside = record {
    types = tested_all (ItemInside s) AType (type_tests m) m.types (λ t i l q h. type_inside m t i l q h) w.types p.types;
    overrides = own_items s rule.Inside kind.Override refl m.overrides w.overrides p.overrides;
    constants = own_items s rule.Inside kind.Constant refl m.constants w.constants p.constants;
    globals = own_items s rule.Inside kind.GlobalVariable refl m.globals w.globals p.globals;
    special =
        tested_each (ItemInside s) (λ i. Made kind.SpecialTypes i × AllHold (special_tests s i)) (seals.special_tests s)
        (λ i q t. special_inside s i q.0 q.1 t) (option_to_list m.special)
        (both (Made kind.SpecialTypes) (λ i. AllHold (special_tests s i)) (option_to_list m.special) w.special (hold_each (special_tests s) (option_to_list m.special) p.special)) p.sealed_special;
    predeclared = own_items s rule.SealedInside kind.Predeclared refl m.predeclared w.predeclared p.predeclared;
    filters = tested_all (ItemInside s) (Made kind.Filter) filter_tests m.filters (λ n i l q h. filter_inside s n i l q h) w.filters p.filters;
    leaf = own_items s rule.Inside kind.Leaf refl (option_to_list m.leaf) w.leaf p.leaf;
    expressions =
        tested_all (ItemInside s) (λ i. AnExpression i × ConstTested m i) (seals.global_tests s) m.expressions (λ x i l q h. global_inside m x i l q h)
        (both AnExpression (ConstTested m) m.expressions w.expressions
        (tested_all (ConstTested m) AnExpression (const_expression_tests m) m.expressions (λ x i l q h. (x, h)) w.expressions p.consts)) p.expressions;
    functions = bodies_inside s kind.Function m.functions w.functions functions_passed (function_openers m.functions w.functions functions_passed);
    entries =
        bodies_inside s kind.EntryPoint m.entries w.entries entries_passed
        (entry_openers m.entries w.entries entries_passed (hold_each (entry_tests s) m.entries p.entries) (hold_each (seals.payload_tests s) m.entries p.payloads));
  }

pub sealed_inside : SealedInside
sealed_inside m a e = let d = sealed_draft m a e in module_inside (state m).built d.made d.passed
