-- The handles of the expressions and of the statements of a body are inside.
use Rattle.std.proofs.Common.{◌≡◌, ℕ, ◌-◌, ◌<◌, ◌≤◌, Bool, true, false, ◌&&◌, ◌||◌, nat_lt, eqb, List, [], ◌∷◌, ◌++◌, filter, drop, flat_map, None, Option, sym, refl, ap, ◌∙◌, subst, arith, ltb-true}
use Rattle.std.proofs.ByRecursion.{All-append}
use Rattle.std.proofs.lemmas.Bool.{and_parts, eqb-true}
use Rattle.ir.specs.declared.handle.Table.TheVariants as table
use Rattle.ir.specs.declared.handle.Handle.{Handle}
use Rattle.ir.specs.declared.handle.Handle.TheVariants as handle
use Rattle.ir.specs.declared.kinds.Kind.{Kind}
use Rattle.ir.specs.declared.kinds.Kind.TheVariants as kind
use Rattle.ir.specs.declared.kinds.TypeInner.TheVariants as type
use Rattle.ir.specs.declared.kinds.Expression.TheVariants as expression
use Rattle.ir.specs.declared.kinds.Statement.TheVariants as statement
use Rattle.ir.specs.Layout.{layout}
use Rattle.ir.specs.Number.{number_of, second_first}
use Rattle.records.specs.Handles.{handles_of, tested_of, field_of}
use Rattle.rules.specs.declared.faults.Rule.TheVariants as rule
use Rattle.rules.specs.declared.sizes.Sizes.{Sizes}
use Rattle.rules.specs.Module.{Item, Body}
use Rattle.rules.specs.Kinds.{Call, Emit, ImageAtomic, starts_with, is}
use Rattle.rules.specs.Sizes.{sizes_in}
use Rattle.rules.specs.Items.{handles, fields, is_of, numbers}
use Rattle.rules.specs.Fault.{range, all_inside}
use Rattle.rules.specs.Check.{named_tests, operand_tests, expression_tests, call_handles, start_of, end_of, statement_tests}
use Rattle.rules.specs.Verdict.{AllHold}
use Rattle.rules.proofs.Passing.{hold_left, hold_right, all_left, all_right, below_from_hold}
use Rattle.draft.specs.Manner.{manner_of, taken_by_expression}
use Rattle.draft.specs.State.{start}
use Rattle.laws.proofs.KindBytes.{starts_so}
use Rattle.sealing.specs.Seal as seals
use Rattle.sealing.specs.Seal.{seal, seal_of, all_tests, seal_tests, in_bodies_only, ty_tests, argument_tests, compare_tests}
use Rattle.promises.specs.Inside.{IsInside, ItemInside, EmitInside, ArgumentInside}
use Rattle.promises.proofs.Handles.{inside_from_hold, OfTable, from_numbers, from_filter, handles_are, field_are, tested_are, in_order}
use Rattle.promises.proofs.Made.{PiecesAre, Made, in_block, AnExpression}
use Rattle.promises.proofs.Tested.{All, below_size, own_numbers, bare, taking}
use Rattle.promises.proofs.Globals.{expression_takes}

-- expressions of a body

-- whichever table a handle is of
zipped : (P : Handle → Type 0) (hs : List Handle) → All (λ h. is_of table.Types h ≡ false → is_of table.Expressions h ≡ false → P h) hs → OfTable table.Types P hs → OfTable table.Expressions P hs → All P hs
zipped P [] r a b = tt
zipped P (h ∷ hs) r a b = (one (is_of table.Types h) (is_of table.Expressions h) refl refl, zipped P hs r.1 a.1 b.1)
  where
    one : (c d : Bool) → is_of table.Types h ≡ c → is_of table.Expressions h ≡ d → P h
    one true d p q = a.0 p
    one false true p q = b.0 q
    one false false p q = r.0 p q

module _ (s : Sizes) (place : ℕ) (f : Option ℕ) where
  named_inside : (i : Item) (hs : List Handle) → AllHold (flat_map (named_tests s place f i) hs) → All (λ h. is_of table.Types h ≡ false → is_of table.Expressions h ≡ false → IsInside s h) hs
  named_inside i [] h = tt
  named_inside i (handle.Type g ∷ hs) h = (λ a b. absurd cc, named_inside i hs (hold_right (named_tests s place f i (handle.Type g)) (flat_map (named_tests s place f i) hs) h))
  named_inside i (handle.Expression g ∷ hs) h = (λ a b. absurd cc, named_inside i hs h)
  named_inside i (handle.Function g ∷ hs) h = (λ a b. ltb-true g.index s.functions h.0, named_inside i hs (hold_right (named_tests s place f i (handle.Function g)) (flat_map (named_tests s place f i) hs) h))
  named_inside i (handle.Constant g ∷ hs) h = (λ a b. ltb-true g.index s.constants h.0, named_inside i hs h.1)
  named_inside i (handle.Override g ∷ hs) h = (λ a b. ltb-true g.index s.overrides h.0, named_inside i hs h.1)
  named_inside i (handle.GlobalVariable g ∷ hs) h = (λ a b. ltb-true g.index s.global_variables h.0, named_inside i hs h.1)
  named_inside i (handle.LocalVariable g ∷ hs) h = (λ a b. ltb-true g.index s.local_variables h.0, named_inside i hs h.1)
  named_inside i (handle.Filter g ∷ hs) h = (λ a b. ltb-true g.index s.filters h.0, named_inside i hs h.1)
  named_inside i (handle.EntryPoint g ∷ hs) h = (λ a b. ltb-true g.index 0 h.0, named_inside i hs h.1)

  pub inner_inside : (n : ℕ) (i : Item) → n < s.expressions → AnExpression i → AllHold (expression_tests s place f n i) → All (IsInside s) (seals.ty_of i) → ItemInside s i
  inner_inside n i l (y, w) h tys =
      let hs = handles_of i.bytes in
      let names = flat_map (named_tests s place f i) hs in
      let before = below_size n s.expressions (numbers table.Expressions (handles i)) (omega arith) (below_from_hold rule.Earlier table.Expressions n i.place (numbers table.Expressions (handles i)) (hold_right names (operand_tests n i) h)) in
      taking s table.Expressions (taken_by_expression y) i w.taken (expression_takes y) before
      (zipped (IsInside s) hs (named_inside i hs (hold_left names (operand_tests n i) h)) (from_filter table.Types (IsInside s) hs tys)
      (from_numbers s table.Expressions hs (own_numbers (λ x. x < s.expressions) table.Expressions i before)))

-- a handle of a type is of the same tables in a body
pub types_same : (s : Sizes) (b : Body) (hs : List Handle) → All (IsInside s) (filter (is_of table.Types) hs) → All (IsInside (sizes_in s b)) (filter (is_of table.Types) hs)
types_same s b [] a = tt
types_same s b (handle.Type g ∷ hs) a = (a.0, types_same s b hs a.1)
types_same s b (g ∷ hs) a = types_same s b hs a

pub argument_inside : (count : ℕ) (i : Item) → AllHold (argument_tests count i) → ArgumentInside count i
argument_inside count i h e = let p : AllHold (seals.argument count i.place (seals.argument_number i) ∷ []) = rw e at h in ltb-true (seals.argument_number i) count p.0

-- statements

range_covers : (count start end n : ℕ) (same : Bool) → eqb start end ≡ same → (same || (nat_lt start end && nat_lt (end - 1) count)) ≡ true → start ≤ n → n < end → n < count
range_covers count start end n true q p l u = let e = eqb-true start end q in absurd (omega arith)
range_covers count start end n false q p l u = let e = ltb-true (end - 1) count (and_parts (nat_lt start end) (nat_lt (end - 1) count) p).1 in omega arith

module _ (s : Sizes) where
  pub emit_inside : (i : Item) → AllHold (statement_tests s i) → EmitInside s.expressions i
  emit_inside i h e n l u =
      let p : AllHold (range s.expressions i.place (start_of i) (end_of i) ∷ []) = rw e at h in
      range_covers s.expressions (start_of i) (end_of i) n (eqb (start_of i) (end_of i)) refl p.0 l u

  -- a statement that is no Emit, Call or ImageAtomic
  other_inside : (k : Kind) (i : Item) → Made k i → (manner_of k).takes ≡ None → eqb (number_of k) Emit ≡ false → eqb (number_of k) Call ≡ false → eqb (number_of k) ImageAtomic ≡ false → AllHold (statement_tests s i) → ItemInside s i
  other_inside k i w t e c a h =
      let byte = (starts_so k i.bytes w.kind_is).1 in
      let no_emit : is Emit i ≡ false = ap (starts_with Emit) byte ∙ e in
      let no_call : is Call i ≡ false = ap (starts_with Call) byte ∙ c in
      let no_atomic : is ImageAtomic i ≡ false = ap (starts_with ImageAtomic) byte ∙ a in
      let p : AllHold (all_inside rule.Inside s i.place (tested_of i.bytes)) = rw (no_emit, no_call, no_atomic) at h in
      let q = subst (All (IsInside s)) (tested_are i.bytes k w.kind_is) (inside_from_hold rule.Inside s i.place (tested_of i.bytes) p) in
      bare s i (subst (λ z. PiecesAre z i.taken) t w.taken)
      (subst (All (IsInside s)) (sym (handles_are i.bytes k w.kind_is)) (in_order (IsInside s) (second_first k) (layout k) (drop 1 i.bytes) q))

  call_inside : (i : Item) → Made (kind.Statement statement.Call) i → AllHold (statement_tests s i) → ItemInside s i
  call_inside i w h =
      let k = kind.Statement statement.Call in
      let r = i.bytes in
      let byte = (starts_so k r w.kind_is).1 in
      let no_emit : is Emit i ≡ false = ap (starts_with Emit) byte in
      let call : is Call i ≡ true = ap (starts_with Call) byte in
      let p : AllHold (all_inside rule.Inside s i.place (call_handles i)) = rw (no_emit, call) at h in
      let q = inside_from_hold rule.Inside s i.place (call_handles i) p in
      let P = IsInside s in
      let f0 = all_left P (field_of r 0) [] (all_left P (fields (0 ∷ []) i) (flat_map handles_of i.taken ++ fields (1 ∷ []) i) q) in
      let rest = all_right P (fields (0 ∷ []) i) (flat_map handles_of i.taken ++ fields (1 ∷ []) i) q in
      let f1 = all_right P (flat_map handles_of i.taken) (fields (1 ∷ []) i) rest in
      let t = all_left P (flat_map handles_of i.taken) (fields (1 ∷ []) i) rest in
      let g0 = subst (All P) (field_are r k w.kind_is 0) f0 in
      let g1 = subst (λ l. All P (l ++ [])) (field_are r k w.kind_is 1) f1 in
      All-append P (handles_of r) (flat_map handles_of i.taken)
      (subst (All P) (sym (handles_are r k w.kind_is)) (All-append P _ _ g0 g1)) t

  atomic_inside : (i : Item) → Made (kind.Statement statement.ImageAtomic) i → AllHold (statement_tests s i) → AllHold (compare_tests s i) → ItemInside s i
  atomic_inside i w h c =
      let k = kind.Statement statement.ImageAtomic in
      let r = i.bytes in
      let byte = (starts_so k r w.kind_is).1 in
      let no_emit : is Emit i ≡ false = ap (starts_with Emit) byte in
      let no_call : is Call i ≡ false = ap (starts_with Call) byte in
      let atomic : is ImageAtomic i ≡ true = ap (starts_with ImageAtomic) byte in
      let p : AllHold (all_inside rule.Inside s i.place (fields (0 ∷ 1 ∷ 2 ∷ 4 ∷ []) i)) = rw (no_emit, no_call, atomic) at h in
      let u : AllHold (all_inside rule.SealedInside s i.place (fields (3 ∷ []) i)) = rw atomic at c in
      let P = IsInside s in
      let f = inside_from_hold rule.Inside s i.place (fields (0 ∷ 1 ∷ 2 ∷ 4 ∷ []) i) p in
      let g = inside_from_hold rule.SealedInside s i.place (fields (3 ∷ []) i) u in
      let f0 = all_left P (field_of r 0) (fields (1 ∷ 2 ∷ 4 ∷ []) i) f in
      let r1 = all_right P (field_of r 0) (fields (1 ∷ 2 ∷ 4 ∷ []) i) f in
      let f1 = all_left P (field_of r 1) (fields (2 ∷ 4 ∷ []) i) r1 in
      let r2 = all_right P (field_of r 1) (fields (2 ∷ 4 ∷ []) i) r1 in
      let f2 = all_left P (field_of r 2) (fields (4 ∷ []) i) r2 in
      let f4 = all_right P (field_of r 2) (fields (4 ∷ []) i) r2 in
      let f3 = all_left P (field_of r 3) [] g in
      bare s i w.taken
      (subst (All P) (sym (handles_are r k w.kind_is))
      (All-append P _ _ (subst (All P) (field_are r k w.kind_is 0) f0)
      (All-append P _ _ (subst (All P) (field_are r k w.kind_is 1) f1)
      (All-append P _ _ (subst (All P) (field_are r k w.kind_is 2) f2)
      (All-append P _ _ (subst (All P) (field_are r k w.kind_is 3) f3)
      (subst (λ l. All P (l ++ [])) (field_are r k w.kind_is 4) f4))))))

  pub statement_inside : (k : Kind) (i : Item) → in_block k ≡ true → Made k i → AllHold (statement_tests s i) → AllHold (compare_tests s i) → ItemInside s i
  statement_inside (kind.Statement statement.Emit) i b w h c = bare s i w.taken (subst (All (IsInside s)) (sym (handles_are i.bytes (kind.Statement statement.Emit) w.kind_is)) tt)
  statement_inside (kind.Statement statement.Call) i b w h c = call_inside i w h
  statement_inside (kind.Statement statement.ImageAtomic) i b w h c = atomic_inside i w h c
  statement_inside (kind.Statement x) i b w h c = other_inside (kind.Statement x) i w refl refl refl refl h
  statement_inside kind.End i b w h c = other_inside kind.End i w refl refl refl refl h
  statement_inside kind.EndLoop i b w h c = other_inside kind.EndLoop i w refl refl refl refl h
  statement_inside kind.Case i b w h c = other_inside kind.Case i w refl refl refl refl h
  statement_inside kind.EndSwitch i b w h c = other_inside kind.EndSwitch i w refl refl refl refl h
  statement_inside (kind.Type type.Scalar) i b w h c = absurd cc
  statement_inside (kind.Expression expression.Literal) i b w h c = absurd cc
  statement_inside k i b w h c = absurd cc
