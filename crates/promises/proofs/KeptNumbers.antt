-- What a kept Emit covers, and the argument that a kept FunctionArgument gives.
use Rattle.std.proofs.Common.{◌≡◌, ℕ, suc, ◌+◌, ◌<◌, ◌≤◌, Bool, true, false, cond, not, ◌||◌, eqb, List, [], ◌∷◌, ◌++◌, length, take, slice_get, Some, None, Ok, Option, sym, refl, ap, ◌∙◌, subst, inl, inr, arith}
use Rattle.std.specs.List.{AllByRecursion}
use Rattle.std.proofs.ByRecursion.{All-append}
use Rattle.std.proofs.lemmas.Bool.{cases_eq, or_cases, eqb-true}
use Rattle.std.proofs.lemmas.Option.{same_Some, slice_get_within, get_or_from_slice_get}
use Rattle.ir.specs.declared.kinds.Kind.{Kind}
use Rattle.ir.specs.declared.kinds.Kind.TheVariants as kind
use Rattle.ir.specs.declared.kinds.Expression.TheVariants as expression
use Rattle.ir.specs.declared.kinds.Statement.TheVariants as statement
use Rattle.ir.specs.Number.{number_of, kind_of}
use Rattle.ir.proofs.Numbering.{number_kind}
use Rattle.records.specs.Record.{judged}
use Rattle.rules.specs.Module.{Record, Item, Body, Module}
use Rattle.rules.specs.Kinds.{Emit, starts_with, is}
use Rattle.rules.specs.Sizes.{sizes}
use Rattle.draft.specs.declared.state.BodyKind.{BodyKind}
use Rattle.draft.specs.declared.state.SlotTable.TheVariants as table
use Rattle.draft.specs.State.{State, start, state, on_side}
use Rattle.draft.specs.Admitted.{Accepted}
use Rattle.draft.specs.Manner.{manner_of}
use Rattle.laws.specs.Decoded.{Starts, Replaced}
use Rattle.laws.proofs.KindBytes.{starts_so}
use Rattle.items.specs.declared.section.Section.{Section}
use Rattle.items.specs.declared.section.Section.TheVariants.{Numbered, Kinds}
use Rattle.items.specs.Sections.{of_kinds, selects}
use Rattle.items.specs.Between.{item_at, items_between}
use Rattle.items.specs.Whole.{ends, ending_from, body_of, module_of}
use Rattle.items.proofs.Between.{between_append, split}
use Rattle.items.proofs.Places.{wanted, wanted_is, next_at}
use Rattle.items.proofs.Whole.{module_is}
use Rattle.sealing.specs.Seal.{FunctionArgument, global_tests, seal_of}
use Rattle.row.specs.Row.{Has}
use Rattle.row.proofs.Places.{In, in_from_has, in_right}
use Rattle.promises.specs.Inside.{EmitInside, ArgumentInside, BodyInside, ModuleInside}
use Rattle.promises.specs.Kept.{StandsIn, NumbersInside, SealedNumbers}
use Rattle.promises.proofs.Tested.{tested_all}
use Rattle.promises.proofs.Passed.{ModulePassed, SealedDraft, sealed_draft}
use Rattle.promises.proofs.Inside.{module_inside}
use Rattle.promises.proofs.Among.{in_all, all_in}
use Rattle.promises.proofs.Opened.{ends_there}
use Rattle.promises.proofs.Kept.{found}
use Rattle.promises.proofs.Bodies.{BodyAt, up_to, stands_open, bodies_are}

-- by the first byte

emit_selected : (r : Record) → starts_with Emit r ≡ true → of_kinds 128 154 r ≡ true
emit_selected [] e = absurd cc
emit_selected (byte ∷ body) e = let b = eqb-true byte 128 e in rw b refl

no_end : (k : ℕ) (r : Record) → starts_with k r ≡ true → ends r ≡ true → k ≡ 31
no_end k [] s e = absurd cc
no_end k (byte ∷ body) s e = let a = eqb-true byte k s in let b = eqb-true byte 31 e in omega arith

kind_by : (x : Kind) (r : Record) (k : Kind) → judged r ≡ Ok k → starts_with (number_of x) r ≡ true → k ≡ x
kind_by x r k j s =
    let e : eqb (number_of k) (number_of x) ≡ true = ap (starts_with (number_of x)) (sym (starts_so k r j).1) ∙ s in
    let n = eqb-true (number_of k) (number_of x) e in
    same_Some k x (sym (number_kind k) ∙ ap kind_of n ∙ number_kind x)

module _ (m : List Record) (a : Accepted start m) where
  abbrev before : ℕ → State
  before p = state (take p m)

  -- a record that a section selects makes an item of it
  made_item : (sec : Section) (x p to : ℕ) (r : Record) → x ≤ p → p < to → to ≤ length m → slice_get m p ≡ Some r → selects sec (before p) r ≡ true → In (items_between sec m x to) (item_at m p r)
  made_item sec x p to r l u t h s =
      let front = items_between sec m x p in
      let this = split sec m a p to r h u t in
      let here : In (items_between sec m p to) (item_at m p r) = subst (λ l. In l (item_at m p r)) (sym (this ∙ ap (λ b. cond b (item_at m p r ∷ items_between sec m (p + 1) to) (items_between sec m (p + 1) to)) s)) (inl refl) in
      subst (λ l. In l (item_at m p r)) (sym (between_append sec m a x p to l (omega arith) t)) (in_right front (items_between sec m p to) (item_at m p r) here)

  -- it stands before the record that ends the body
  before_end : (j : Item) (p k : ℕ) (r : Record) → slice_get m p ≡ Some r → starts_with k r ≡ true → (k ≡ 31 → ⊥) → p ≤ ending_from m (suc j.place) → ending_from m (suc j.place) < length m → p < ending_from m (suc j.place)
  before_end j p k r h s never l u =
      elim (cases_eq p (ending_from m (suc j.place))) [
        | inl e ↦
            let t = ends_there m (suc j.place) p e (omega arith) in
            absurd (never (no_end k r s (ap ends (sym (get_or_from_slice_get m p r [] h)) ∙ t)))
        | inr d ↦ omega arith
      ]

  module _ (p : ℕ) (r : Record) (h : slice_get m p ≡ Some r) (b : Body) (t : BodyAt m a b) (stands : StandsIn b p) where
    abbrev j : Item
    j = t.item

    abbrev to : ℕ
    to = ending_from m (suc j.place)

    range : (j.place < p) × (p ≤ to) × (to < length m)
    range =
        let q : StandsIn (body_of m j) p = subst (λ y. StandsIn y p) t.is stands in
        let u = up_to m a to p (slice_get m to) refl q.1 in
        (q.0, u.0, u.1)

    emit_inside : AllByRecursion (EmitInside (length b.expressions)) b.statements → starts_with Emit r ≡ true → EmitInside (length b.expressions) (item_at m p r)
    emit_inside inside s =
        let g = range in
        let first = g.0 in
        let last = g.2 in
        let u = before_end j p Emit r h s (λ e. let z : 128 ≡ 31 = e in absurd (omega arith)) g.1 g.2 in
        let i = made_item (Kinds 128 154) (suc j.place) p to r (omega arith) u (omega arith) h (emit_selected r s) in
        in_all (EmitInside (length b.expressions)) b.statements (item_at m p r) inside (subst (λ y. In y.statements (item_at m p r)) (sym t.is) i)

    argument_inside : AllByRecursion (ArgumentInside (length b.arguments)) b.expressions → starts_with FunctionArgument r ≡ true → ArgumentInside (length b.arguments) (item_at m p r)
    argument_inside inside s =
        let g = range in
        let first = g.0 in
        let last = g.2 in
        let u = before_end j p FunctionArgument r h s (λ e. let z : 73 ≡ 31 = e in absurd (omega arith)) g.1 g.2 in
        let n = next_at m a p (omega arith) in
        let same : n.bytes ≡ r = same_Some n.bytes r (sym n.has ∙ h) in
        let judged_so : judged r ≡ Ok n.kind = ap judged (sym same) ∙ n.admits.kind_is in
        let k = kind_by (kind.Expression expression.FunctionArgument) r n.kind judged_so s in
        let o = stands_open m a b t p stands in
        let selected : selects (Numbered table.LocalExpressions) (before p) r ≡ true =
        wanted_is (Numbered table.LocalExpressions) (before p) r n.kind judged_so
        ∙ ap (λ z. wanted (Numbered table.LocalExpressions) (before p).opened z) k
        ∙ ap (λ z. wanted (Numbered table.LocalExpressions) z (kind.Expression expression.FunctionArgument)) o.opened in
        let i = made_item (Numbered table.LocalExpressions) (suc j.place) p to r (omega arith) u (omega arith) h selected in
        in_all (ArgumentInside (length b.arguments)) b.expressions (item_at m p r) inside (subst (λ y. In y.expressions (item_at m p r)) (sym t.is) i)

-- an Emit comes where a body is open
emit_inside_only : (o : Option BodyKind) → on_side o (manner_of (kind.Statement statement.Emit)).side ≡ true → o ≡ None → ⊥
emit_inside_only None e n = absurd cc
emit_inside_only (Some x) e n = absurd cc

-- a record of another kind is not replaced
not_started : (k l : ℕ) (r : Record) → starts_with k r ≡ true → Starts r l → k ≡ l
not_started k l r s t = let e : eqb l k ≡ true = sym (ap (starts_with k) t.1) ∙ s in sym (eqb-true l k e)

not_replaced : (k : ℕ) (s : State) (p : ℕ) (r : Record) → starts_with k r ≡ true → (k ≡ 6 → ⊥) → (k ≡ 9 → ⊥) → (k ≡ 14 → ⊥) → Replaced s (p, r) → ⊥
not_replaced k s p r e a b c (inl x) = a (not_started k 6 r e x.0)
not_replaced k s p r e a b c (inr (inl x)) = b (not_started k 9 r e x.0)
not_replaced k s p r e a b c (inr (inr x)) = c (not_started k 14 r e x.0)

-- a FunctionArgument is no global expression of a sealed module
placed_only : (m : Module) → ModulePassed m → AllByRecursion (λ i. is FunctionArgument i ≡ true → ⊥) m.expressions
placed_only m p =
    tested_all (λ i. is FunctionArgument i ≡ true → ⊥) (λ i. Unit {0}) (global_tests (sizes m)) m.expressions
    (λ x i l q t e. contrary (is FunctionArgument i) (is 74 i || (is 75 i || is 87 i)) e t.0) (all_in (λ i. Unit {0}) m.expressions (λ i h. tt)) p.expressions
  where
    contrary : (x y : Bool) → x ≡ true → not (x || y) ≡ true → ⊥
    contrary true y e t = absurd cc
    contrary false y e t = absurd cc

module _ (m : List Record) (a : Accepted start m) (e : seal_of (state m) ≡ None) (p : ℕ) (r : Record) (h : slice_get m p ≡ Some r) where
  abbrev M : Module
  M = module_of m

  d : SealedDraft m
  d = sealed_draft m a e

  equal : (state m).built ≡ M
  equal = module_is m a d.closed

  passed : ModulePassed M
  passed = subst ModulePassed equal d.passed

  insides : AllByRecursion (BodyInside (sizes M)) (M.functions ++ M.entries)
  insides = let i = subst ModuleInside equal (module_inside (state m).built d.made d.passed) in All-append (BodyInside (sizes M)) M.functions M.entries i.functions i.entries

  emit_in_body : starts_with Emit r ≡ true → (state (take p m)).opened ≡ None → ⊥
  emit_in_body s none =
      let n = next_at m a p (slice_get_within m p r h) in
      let same : n.bytes ≡ r = same_Some n.bytes r (sym n.has ∙ h) in
      let k = kind_by (kind.Statement statement.Emit) r n.kind (ap judged (sym same) ∙ n.admits.kind_is) s in
      emit_inside_only (state (take p m)).opened (subst (λ z. on_side (state (take p m)).opened (manner_of z).side ≡ true) k n.admits.on_its_side) none

  argument_in_body : starts_with FunctionArgument r ≡ true → (state (take p m)).opened ≡ None → ⊥
  argument_in_body s none =
      let within = slice_get_within m p r h in
      let n = next_at m a p within in
      let same : n.bytes ≡ r = same_Some n.bytes r (sym n.has ∙ h) in
      let judged_so : judged r ≡ Ok n.kind = ap judged (sym same) ∙ n.admits.kind_is in
      let k = kind_by (kind.Expression expression.FunctionArgument) r n.kind judged_so s in
      let selected : selects (Numbered table.Expressions) (state (take p m)) r ≡ true =
      wanted_is (Numbered table.Expressions) (state (take p m)) r n.kind judged_so
      ∙ ap (λ z. wanted (Numbered table.Expressions) (state (take p m)).opened z) k
      ∙ ap (λ z. wanted (Numbered table.Expressions) z (kind.Expression expression.FunctionArgument)) none in
      let i = made_item m a (Numbered table.Expressions) 0 p (length m) r (omega arith) within (omega arith) h selected in
      in_all (λ j. is FunctionArgument j ≡ true → ⊥) M.expressions (item_at m p r) (placed_only M passed) i s

  placed_so : (starts_with Emit r || starts_with FunctionArgument r) ≡ true → (b : Body) × Has (M.functions ++ M.entries) b × StandsIn b p
  placed_so o =
      elim (or_cases (starts_with Emit r) (starts_with FunctionArgument r) o) [
        | inl s ↦
            elim (found m a e p r h) [
              | inl f ↦ elim f.place [ inl none ↦ absurd (emit_in_body s none) | inr b ↦ b ]
              | inr g ↦ absurd (not_replaced Emit (state m) p r s (λ q. let z : 128 ≡ 6 = q in absurd (omega arith)) (λ q. let z : 128 ≡ 9 = q in absurd (omega arith)) (λ q. let z : 128 ≡ 14 = q in absurd (omega arith)) g)
            ]
        | inr s ↦
            elim (found m a e p r h) [
              | inl f ↦ elim f.place [ inl none ↦ absurd (argument_in_body s none) | inr b ↦ b ]
              | inr g ↦ absurd (not_replaced FunctionArgument (state m) p r s (λ q. let z : 73 ≡ 6 = q in absurd (omega arith)) (λ q. let z : 73 ≡ 9 = q in absurd (omega arith)) (λ q. let z : 73 ≡ 14 = q in absurd (omega arith)) g)
            ]
      ]

  numbers : NumbersInside M p r
  numbers =
      let bodies = M.functions ++ M.entries in
      let at : (b : Body) → Has bodies b → BodyAt m a b = λ b has. in_all (BodyAt m a) bodies b (bodies_are m a) (in_from_has bodies b has) in
      let inside : (b : Body) → Has bodies b → BodyInside (sizes M) b = λ b has. in_all (BodyInside (sizes M)) bodies b insides (in_from_has bodies b has) in
      record {
        emitted = λ b has s k n l u. emit_inside m a p r h b (at b has) s (inside b has).emitted k k n l u;
        given = λ b has s k. argument_inside m a p r h b (at b has) s (inside b has).given k k;
        placed = placed_so;
      }

pub sealed_numbers : SealedNumbers
sealed_numbers m a e p r h = subst (λ y. NumbersInside y p r) (sym (equal m a e p r h)) (numbers m a e p r h)
