-- The statements of every body that has ended are a block.
use Rattle.std.proofs.Common.{◌≡◌, ℕ, true, List, [], ◌∷◌, ◌++◌, is_some, Ok, sym, refl, ap, ◌∙◌, subst, append_assoc, append-nil, Some, None, Option}
use Rattle.std.specs.List.{AllByRecursion}
use Rattle.std.proofs.ByRecursion.{All-push}
use Rattle.ir.specs.declared.kinds.Kind.{Kind}
use Rattle.ir.specs.declared.kinds.Kind.TheVariants as kind
use Rattle.ir.specs.declared.kinds.Expression.{Expression}
use Rattle.ir.specs.Number.{number_of}
use Rattle.records.specs.Record.{judged}
use Rattle.draft.specs.declared.state.BodyKind.{BodyKind}
use Rattle.draft.specs.declared.state.BodyKind.TheVariants as body_kind
use Rattle.draft.specs.declared.state.Bracket.{Bracket}
use Rattle.draft.specs.declared.manner.Side.TheVariants as side
use Rattle.draft.specs.declared.manner.Motion.TheVariants as motion
use Rattle.draft.specs.Manner.{turn_of}
use Rattle.draft.specs.State.{State, start, stepped, state, innermost, turned, on_side, item_of, module_after, body_after}
use Rattle.draft.specs.Admitted.{Accepted}
use Rattle.draft.proofs.Tallying.{statement_stays}
use Rattle.draft.proofs.Stepping.{Admits, throughout, outside_only}
use Rattle.rules.specs.Module.{Record, Item, Body, Module, closed}
use Rattle.laws.specs.Grammar.{Block, kinds, Grammatical}
use Rattle.laws.specs.Grammar.Block.{nothing}
use Rattle.laws.proofs.KindBytes.{byte_is, kinds_push}
use Rattle.laws.proofs.Closing.{Closing, statement_turn, end_turn, loop_end_turn, switch_end_turn, case_turn}

-- the statements of the body are a block
abbrev Ended : Body → Type 0
Ended b = Block (kinds b.statements)

-- what each record keeps: whatever closes the open brackets makes a block of the open body
record Running (s : State) : Type 0 where
  functions : AllByRecursion Ended s.built.functions
  entries : AllByRecursion Ended s.built.entries
  so_far : (tail : List ℕ) → Closing s.brackets tail → Block (kinds s.body.statements ++ tail)
  outside : s.opened ≡ None → s.brackets ≡ []

-- inside of a body one is open
not_outside : (o : Option BodyKind) (bs : List Bracket) → on_side o side.Inside ≡ true → o ≡ None → bs ≡ []
not_outside None bs h e = absurd cc
not_outside (Some k) bs h e = absurd cc

-- where a body may end, no bracket is open
no_bracket : (bs : List Bracket) → is_some (turn_of (innermost bs) motion.Finish) ≡ true → bs ≡ []
no_bracket [] h = refl
no_bracket (b ∷ bs) h = absurd cc

-- the statements of a body with no open bracket are a block
whole : (bs : List Bracket) (ks : List ℕ) → bs ≡ [] → ((tail : List ℕ) → Closing bs tail → Block (ks ++ tail)) → Block ks
whole bs ks none f = subst Block (append-nil ks) (f [] (subst (λ l. Closing l []) (sym none) nothing))

-- a body that ends joins its table
module _ (b : Body) (i : Item) (m : Module) (block : Block (kinds b.statements)) where
  functions_then : (o : Option BodyKind) → AllByRecursion Ended m.functions → AllByRecursion Ended (module_after kind.EndFunction o b i m).functions
  functions_then None h = h
  functions_then (Some body_kind.Function) h = All-push Ended m.functions (closed b i) h block
  functions_then (Some body_kind.EntryPoint) h = h

  entries_then : (o : Option BodyKind) → AllByRecursion Ended m.entries → AllByRecursion Ended (module_after kind.EndFunction o b i m).entries
  entries_then None h = h
  entries_then (Some body_kind.Function) h = h
  entries_then (Some body_kind.EntryPoint) h = All-push Ended m.entries (closed b i) h block

-- an expression is in no table of bodies, and no statement
module _ (i : Item) where
  functions_still : (o : Option BodyKind) (e : Expression) (b : Body) (m : Module) → (module_after (kind.Expression e) o b i m).functions ≡ m.functions
  functions_still None e b m = refl
  functions_still (Some k) e b m = refl

  entries_still : (o : Option BodyKind) (e : Expression) (b : Body) (m : Module) → (module_after (kind.Expression e) o b i m).entries ≡ m.entries
  entries_still None e b m = refl
  entries_still (Some k) e b m = refl

  statements_still : (o : Option BodyKind) (e : Expression) (b : Body) → (body_after (kind.Expression e) o i b).statements ≡ b.statements
  statements_still None e b = refl
  statements_still (Some k) e b = refl

module _ (s : State) (r : Record) (w : Running s) where
  -- a record that moves no bracket, begins and ends no body, and is no statement
  stays : (t : State) → t.built.functions ≡ s.built.functions → t.built.entries ≡ s.built.entries → t.body.statements ≡ s.body.statements → t.brackets ≡ s.brackets → t.opened ≡ s.opened → Running t
  stays t f e x b o = record {
    functions = subst (AllByRecursion Ended) (sym f) w.functions;
    entries = subst (AllByRecursion Ended) (sym e) w.entries;
    so_far = λ tail c. subst (λ l. Block (kinds l ++ tail)) (sym x) (w.so_far tail (subst (λ l. Closing l tail) b c));
    outside = λ n. b ∙ w.outside (sym o ∙ n);
  }

  -- a statement more
  said : (k : Kind) → judged r ≡ Ok k → (tail : List ℕ) → Closing s.brackets (number_of k ∷ tail) → Block (kinds (s.body.statements ++ item_of s r ∷ []) ++ tail)
  said k e tail c =
      let ks : List ℕ = kinds s.body.statements in
      let more : kinds (s.body.statements ++ item_of s r ∷ []) ≡ ks ++ number_of k ∷ [] = kinds_push s.body.statements (item_of s r) ∙ ap (λ l. ks ++ l) (byte_is r k e) in
      subst Block (sym (ap (λ l. l ++ tail) more ∙ append_assoc ks (number_of k ∷ []) tail)) (w.so_far (number_of k ∷ tail) c)

  says : (k : Kind) (t : State) → t.built.functions ≡ s.built.functions → t.built.entries ≡ s.built.entries → t.body.statements ≡ s.body.statements ++ item_of s r ∷ [] → judged r ≡ Ok k → ((tail : List ℕ) → Closing t.brackets tail → Closing s.brackets (number_of k ∷ tail)) → (t.opened ≡ None → t.brackets ≡ []) → Running t
  says k t f e x j closes out = record {
    functions = subst (AllByRecursion Ended) (sym f) w.functions;
    entries = subst (AllByRecursion Ended) (sym e) w.entries;
    so_far = λ tail c. subst (λ l. Block (kinds l ++ tail)) (sym x) (said k j tail (closes tail c));
    outside = out;
  }

  -- behind it the open body has no statement, and no bracket is open
  begins : (t : State) → AllByRecursion Ended t.built.functions → AllByRecursion Ended t.built.entries → t.body.statements ≡ [] → t.brackets ≡ [] → Running t
  begins t f e x b = record { functions = f; entries = e; so_far = λ tail c. subst (λ l. Block (kinds l ++ tail)) (sym x) (subst (λ l. Closing l tail) b c); outside = λ o. b }

  -- each record keeps it
  next : (k : Kind) → Admits s r k → Running (stepped k r s)
  next kind.Function a = begins (stepped kind.Function r s) w.functions w.entries refl (w.outside (outside_only s.opened a.on_its_side))
  next kind.EntryPoint a = begins (stepped kind.EntryPoint r s) w.functions w.entries refl (w.outside (outside_only s.opened a.on_its_side))
  next kind.EndFunction a =
      let none = no_bracket s.brackets a.turns in
      let block = whole s.brackets (kinds s.body.statements) none w.so_far in
      begins (stepped kind.EndFunction r s)
      (functions_then s.body (item_of s r) s.built block s.opened w.functions)
      (entries_then s.body (item_of s r) s.built block s.opened w.entries)
      refl (ap (λ l. turned (turn_of (innermost l) motion.Finish) l) none)
  next (kind.Expression e) a = stays (stepped (kind.Expression e) r s) (functions_still (item_of s r) s.opened e s.body s.built) (entries_still (item_of s r) s.opened e s.body s.built) (statements_still (item_of s r) s.opened e s.body) refl refl
  next (kind.Statement c) a = says (kind.Statement c) (stepped (kind.Statement c) r s) refl refl refl a.kind_is (λ tail x. statement_turn c s.brackets tail a.turns x) (λ o. not_outside s.opened _ a.on_its_side (sym (statement_stays c s.opened) ∙ o))
  next kind.End a = says kind.End (stepped kind.End r s) refl refl refl a.kind_is (λ tail x. end_turn s.brackets tail a.turns x) (not_outside s.opened _ a.on_its_side)
  next kind.EndLoop a = says kind.EndLoop (stepped kind.EndLoop r s) refl refl refl a.kind_is (λ tail x. loop_end_turn s.brackets tail a.turns x) (not_outside s.opened _ a.on_its_side)
  next kind.Case a = says kind.Case (stepped kind.Case r s) refl refl refl a.kind_is (λ tail x. case_turn s.brackets tail a.turns x) (not_outside s.opened _ a.on_its_side)
  next kind.EndSwitch a = says kind.EndSwitch (stepped kind.EndSwitch r s) refl refl refl a.kind_is (λ tail x. switch_end_turn s.brackets tail a.turns x) (not_outside s.opened _ a.on_its_side)
  next k a = stays (stepped k r s) refl refl refl refl refl

running : (m : List Record) → Accepted start m → Running (state m)
running m a = throughout (λ l s. Running s) (λ l s r k ad w. next s r w k ad) m a (record { functions = tt; entries = tt; so_far = λ tail c. c; outside = λ o. refl })

-- in the state of an accepted list of records, the statements of every body that has ended are a block
pub grammatical : (m : List Record) → Accepted start m → Grammatical m
grammatical m a = let w = running m a in record { functions = w.functions; entries = w.entries }
