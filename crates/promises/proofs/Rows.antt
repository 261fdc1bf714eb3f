-- The row of a sealed module is a row.
use Rattle.std.proofs.Common.{◌≡◌, ℕ, zero, suc, ◌<◌, ◌≤◌, Bool, true, false, List, [], ◌∷◌, ◌++◌, map, length, take, slice_get, flat_map, Some, None, refl, sym, ap, ◌∙◌, subst, inl, inr, arith, append-nil}
use Rattle.std.specs.List.{AllByRecursion}
use Rattle.std.specs.List.Sorted.{IsPermutation, IsNonDecreasingBy}
use Rattle.std.proofs.ByRecursion.{All-append, All-take}
use Rattle.std.proofs.lemmas.Bool.{cases_lt}
use Rattle.ir.specs.declared.handle.Table.{Table}
use Rattle.ir.specs.declared.handle.Table.TheVariants as table
use Rattle.ir.specs.declared.handle.Handle.{Handle}
use Rattle.ir.specs.declared.kinds.Kind.{Kind}
use Rattle.ir.specs.declared.kinds.Kind.TheVariants as kind
use Rattle.ir.specs.declared.kinds.TypeInner.{TypeInner}
use Rattle.ir.specs.declared.kinds.TypeInner.TheVariants as type
use Rattle.ir.specs.declared.kinds.Expression.{Expression}
use Rattle.ir.specs.declared.kinds.Expression.TheVariants as expression
use Rattle.ir.specs.Handle.{named, table_of, index_of}
use Rattle.ir.specs.Layout.{layout}
use Rattle.records.specs.Handles.{handles_of}
use Rattle.rules.specs.declared.faults.Rule.TheVariants as rule
use Rattle.rules.specs.declared.sizes.Sizes.{Sizes}
use Rattle.rules.specs.Module.{Record, Item, Module}
use Rattle.rules.specs.Sizes.{size_in, sizes}
use Rattle.rules.specs.Items.{handles, is_of, numbers, own, type_of, init_of, pending_of, at}
use Rattle.rules.specs.Fault.{earlier}
use Rattle.rules.specs.Check.{value_tests, constant_tests, override_tests, const_expression_tests, init_tests, size_tests, pending_tests, base_tests, type_tests}
use Rattle.rules.specs.Once.{inits}
use Rattle.rules.specs.Verdict.{AllHold}
use Rattle.rules.proofs.Passing.{all_left, hold_left, hold_right, hold_each, hold_numbered, below_from_hold}
use Rattle.rules.proofs.Once.{get_take}
use Rattle.draft.specs.Manner.{manner_of}
use Rattle.draft.specs.State.{start, state}
use Rattle.draft.specs.Admitted.{Accepted}
use Rattle.sealing.specs.Seal as seals
use Rattle.sealing.specs.Seal.{seal_of, types_named, waited_tests, up_to_tests, ty_tests}
use Rattle.sealing.proofs.FieldTables.{Allowed, fields_allowed, named_table}
use Rattle.sealing.proofs.Kinded.{one_more_if}
use Rattle.walk.proofs.Places.{got, all_at}
use Rattle.row.specs.Row.{Has}
use Rattle.row.proofs.Places.{In, in_from_get, in_from_has, has_from_in, in_left, in_right, in_either, once_from_apart}
use Rattle.row.proofs.Sorting.{Sorted, sorted, sorted_is_row}
use Rattle.row.proofs.Permuting.{permuted}
use Rattle.promises.specs.Inside.{IsInside, ItemInside, ItemsInside, ModuleInside}
use Rattle.promises.specs.Rows.{RowItem, IsItemOf, item_at, handle_of, PointsTo, above, room, type_rank, expression_rank, value_ranks, rank, row_items, row, IsModuleRow, SealedRow}
use Rattle.promises.proofs.Handles.{same_code, fields_most, own_is}
use Rattle.promises.proofs.Made.{allowed_of, Made, AType, AnExpression, ModuleMade}
use Rattle.promises.proofs.Tested.{only, pieces_allowed, pieces_are_allowed}
use Rattle.promises.proofs.Globals.{type_tables, type_layouts, type_takes, one_size, expression_takes, one_constant, one_override, constants_tested, overrides_tested}
use Rattle.promises.proofs.Passed.{ModulePassed, sealed_draft}
use Rattle.promises.proofs.Inside.{module_inside}
use Rattle.promises.proofs.Among.{in_all, in_flat, in_map, from_map, at_is, in_numbers, above_over, above_under}
use Rattle.promises.proofs.Listed.{in_items, from_items, apart_items}
use Rattle.promises.proofs.Ranks.{room_over, room_under, type_type, expression_type, expression_expression, type_expression, type_positive, expression_positive}

-- a handle of a table of which the item's own record has one handle at most, and the records that it took none
own_in : (t other : Table) (k : Kind) (i : Item) → Made k i → fields_most t (layout k) ≤ 1 → pieces_allowed (only other) (manner_of k).takes ≡ true → only other t ≡ false → (n : ℕ) → In (handles i) (named t n) → In (own t i) n
own_in t other k i w few allowed differ n h =
    elim (in_either (handles_of i.bytes) (flat_map handles_of i.taken) (named t n) h) [
      | inl g ↦ subst (λ ns. In ns n) (sym (own_is t i.bytes k w.kind_is few)) (in_numbers t n (handles_of i.bytes) g)
      | inr g ↦
          let a = in_all (Allowed (only other)) (flat_map handles_of i.taken) (named t n) (pieces_are_allowed (only other) (manner_of k).takes i.taken w.taken allowed) g in
          let b : only other t ≡ true = ap (only other) (sym (named_table t n)) ∙ a in
          absurd cc
    ]

one_type : (y : Expression) → fields_most table.Types (layout (kind.Expression y)) ≤ 1
one_type expression.Literal = omega arith
one_type y = omega arith

-- which tables the handles of a type and of a value are of

abbrev value_tables : Table → Bool
value_tables table.Types = true
value_tables table.Expressions = true
value_tables _ = false

-- the handles of an item are of the tables of its record and of those that it took
made_allowed : (allowed : Table → Bool) (k : Kind) (i : Item) → Made k i → fields_allowed allowed (layout k) ≡ true → pieces_allowed allowed (manner_of k).takes ≡ true → AllByRecursion (Allowed allowed) (handles i)
made_allowed allowed k i w f t =
    All-append (Allowed allowed) (handles_of i.bytes) (flat_map handles_of i.taken) (allowed_of allowed i.bytes k w.kind_is f)
    (pieces_are_allowed allowed (manner_of k).takes i.taken w.taken t)

type_allowed : (i : Item) → AType i → AllByRecursion (Allowed type_tables) (handles i)
type_allowed i (y, w) = made_allowed type_tables (kind.Type y) i w (type_layouts y) (takes y)
  where
    takes : (y : TypeInner) → pieces_allowed type_tables (manner_of (kind.Type y)).takes ≡ true
    takes type.Scalar = refl
    takes y = refl

-- what an item whose handles are inside names by its own record is inside
pub own_within : (t : Table) (s : Sizes) (v : Item) → ItemInside s v → AllByRecursion (λ n. n < size_in s t) (own t v)
own_within t s v a = All-take (λ n. n < size_in s t) 1 (numbers t (handles_of v.bytes)) (within (handles_of v.bytes) (all_left (IsInside s) (handles_of v.bytes) (flat_map handles_of v.taken) a))
  where
    within : (hs : List Handle) → AllByRecursion (IsInside s) hs → AllByRecursion (λ n. n < size_in s t) (numbers t hs)
    within [] a = tt
    within (h ∷ hs) a = one_more_if (λ n. n < size_in s t) (is_of t h) (index_of h) (numbers t hs) (λ e. subst (λ u. index_of h < size_in s u) (same_code (table_of h) t e) a.0) (within hs a.1)

types_within : (m : Module) (v : Item) → ItemInside (sizes m) v → AllByRecursion (λ n. n < length m.types) (type_of v)
types_within m v a = own_within table.Types (sizes m) v a

-- what stands behind values
module _ (m : Module) (v : Item) where
  value_above_type : (u : ℕ) → In (type_of v) u → type_rank m u < above (value_ranks m v)
  value_above_type u h =
      above_over (value_ranks m v) (type_rank m u)
      (in_left (map (type_rank m) (type_of v)) (map (expression_rank m) (init_of v)) (type_rank m u) (in_map (type_rank m) (type_of v) u h))

  value_above_init : (e : ℕ) → In (init_of v) e → expression_rank m e < above (value_ranks m v)
  value_above_init e h =
      above_over (value_ranks m v) (expression_rank m e)
      (in_right (map (type_rank m) (type_of v)) (map (expression_rank m) (init_of v)) (expression_rank m e) (in_map (expression_rank m) (init_of v) e h))

  value_below : (r : ℕ) → 0 < r → ((u : ℕ) → In (type_of v) u → suc (type_rank m u) < r) → ((e : ℕ) → In (init_of v) e → suc (expression_rank m e) < r) → above (value_ranks m v) < r
  value_below zero z ty init = absurd (omega arith)
  value_below (suc r) z ty init = let l = above_under (value_ranks m v) r in_value in omega arith
    where
      in_value : (n : ℕ) → In (value_ranks m v) n → n < r
      in_value n g =
          elim (in_either (map (type_rank m) (type_of v)) (map (expression_rank m) (init_of v)) n g) [
            | inl a ↦ let q = from_map (type_rank m) (type_of v) n a in let l = ty q.0 q.1 in let e = q.2 in omega arith
            | inr a ↦ let q = from_map (expression_rank m) (init_of v) n a in let l = init q.0 q.1 in let e = q.2 in omega arith
          ]

-- the rank of the override or of the constant with a number
pub value_rank_is : (m : Module) (values : List Item) (n : ℕ) (v : Item) → slice_get values n ≡ Some v → above (flat_map (value_ranks m) (at values n)) ≡ above (value_ranks m v)
value_rank_is m values n v e = ap (λ l. above (flat_map (value_ranks m) l)) (at_is values n v e) ∙ ap above (append-nil (value_ranks m v))

module _ (m : Module) (w : ModuleMade m) (p : ModulePassed m) where
  edge : (x y : RowItem) → PointsTo m x y → (i : Item) × (item_at m x ≡ Some i) × In (handles i) (handle_of y)
  edge x y q = (q.0, q.1, in_from_has (handles q.0) (handle_of y) q.2)

  -- what types point to

  type_holds : (t : ℕ) (i : Item) → slice_get m.types t ≡ Some i → AllHold (type_tests m t i)
  type_holds t i s = hold_numbered (type_tests m) m.types p.types t i s

  earlier_type : (t u : ℕ) (i : Item) → slice_get m.types t ≡ Some i → In (handles i) (named table.Types u) → u < t
  earlier_type t u i s h =
      in_all (λ x. x < t) (numbers table.Types (handles i)) u
      (below_from_hold rule.Earlier table.Types t i.place (numbers table.Types (handles i)) (hold_left (base_tests t i) (flat_map (pending_tests m t i.place) (pending_of i)) (type_holds t i s)))
      (in_numbers table.Types u (handles i) h)

  size_of : (t o : ℕ) (i : Item) → slice_get m.types t ≡ Some i → In (handles i) (named table.Overrides o) → In (pending_of i) o
  size_of t o i s h =
      let a = all_at AType m.types t i w.types s in
      own_in table.Overrides table.Types (kind.Type a.0) i a.1 (one_size a.0) (type_takes a.0) refl o h

  sized_earlier : (t o u : ℕ) (i v : Item) → slice_get m.types t ≡ Some i → In (pending_of i) o → slice_get m.overrides o ≡ Some v → In (type_of v) u → u < t
  sized_earlier t o u i v s h e g =
      let a = in_all (λ z. AllHold (pending_tests m t i.place z)) (pending_of i) o (hold_each (pending_tests m t i.place) (pending_of i) (hold_right (base_tests t i) (flat_map (pending_tests m t i.place) (pending_of i)) (type_holds t i s))) h in
      let b = in_all (λ z. AllHold (size_tests m t i.place z)) (at m.overrides o) v (hold_each (size_tests m t i.place) (at m.overrides o) a.1) (subst (λ l. In l v) (sym (at_is m.overrides o v e)) (inl refl)) in
      in_all (λ x. x < t) (type_of v) u (below_from_hold rule.Earlier table.Types t i.place (type_of v) (hold_left (map (earlier rule.Earlier table.Types t i.place) (type_of v)) (flat_map (init_tests m t i.place) (init_of v)) b)) g

  waited : (o e : ℕ) (i v : Item) → In (pending_of i) o → slice_get m.overrides o ≡ Some v → In (init_of v) e → In (inits m i) e
  waited o e i v h s g =
      in_flat init_of (flat_map (at m.overrides) (pending_of i)) v e
      (in_flat (at m.overrides) (pending_of i) o v h (subst (λ l. In l v) (sym (at_is m.overrides o v s)) (inl refl))) g

  -- what values point to

  value_type : (k : Kind) (v : Item) → Made k v → fields_most table.Types (layout k) ≤ 1 → pieces_allowed (only table.Filters) (manner_of k).takes ≡ true → (u : ℕ) → In (handles v) (named table.Types u) → In (type_of v) u
  value_type k v a few alone u h = own_in table.Types table.Filters k v a few alone refl u h

  value_init : (k : Kind) (v : Item) → Made k v → fields_most table.Expressions (layout k) ≤ 1 → pieces_allowed (only table.Filters) (manner_of k).takes ≡ true → (e : ℕ) → In (handles v) (named table.Expressions e) → In (init_of v) e
  value_init k v a few alone e h = own_in table.Expressions table.Filters k v a few alone refl e h

  -- what expressions point to

  earlier_operand : (x y : ℕ) (i : Item) → slice_get m.expressions x ≡ Some i → In (handles i) (named table.Expressions y) → y < x
  earlier_operand x y i s h =
      let t = hold_numbered (seals.global_tests (sizes m)) m.expressions p.expressions x i s in
      in_all (λ z. z < x) (numbers table.Expressions (handles i)) y
      (below_from_hold rule.SealedEarlier table.Expressions x i.place (numbers table.Expressions (handles i)) (hold_left (map (earlier rule.SealedEarlier table.Expressions x i.place) (numbers table.Expressions (handles i))) (ty_tests (sizes m) i) t.1))
      (in_numbers table.Expressions y (handles i) h)

  own_of : (t : Table) → ((y : Expression) → fields_most t (layout (kind.Expression y)) ≤ 1) → only table.Expressions t ≡ false → (x n : ℕ) (i : Item) → slice_get m.expressions x ≡ Some i → In (handles i) (named t n) → In (own t i) n
  own_of t few differ x n i s h =
      let a = all_at AnExpression m.expressions x i w.expressions s in
      own_in t table.Expressions (kind.Expression a.0) i a.1 (few a.0) (expression_takes a.0) differ n h

  constant_init : (x c e : ℕ) (i v : Item) → slice_get m.expressions x ≡ Some i → In (own table.Constants i) c → slice_get m.constants c ≡ Some v → In (init_of v) e → e < x
  constant_init x c e i v s h g j =
      let a = all_at AnExpression m.expressions x i w.expressions s in
      let t = in_all (λ z. AllHold (constant_tests m x i.place z)) (own table.Constants i) c (constants_tested m x i a.0 a.1.kind_is (hold_numbered (const_expression_tests m) m.expressions p.consts x i s)) h in
      let b = in_all (λ z. AllHold (value_tests x i.place z)) (at m.constants c) v (hold_each (value_tests x i.place) (at m.constants c) t.1) (subst (λ l. In l v) (sym (at_is m.constants c v g)) (inl refl)) in
      in_all (λ z. z < x) (init_of v) e (below_from_hold rule.Earlier table.Expressions x i.place (init_of v) b) j

  override_init : (x o e : ℕ) (i v : Item) → slice_get m.expressions x ≡ Some i → In (own table.Overrides i) o → slice_get m.overrides o ≡ Some v → In (init_of v) e → e < x
  override_init x o e i v s h g j =
      let a = all_at AnExpression m.expressions x i w.expressions s in
      let t = in_all (λ z. AllHold (override_tests m x i.place z)) (own table.Overrides i) o (overrides_tested m x i a.0 a.1.kind_is (hold_numbered (const_expression_tests m) m.expressions p.consts x i s)) h in
      let b = in_all (λ z. AllHold (value_tests x i.place z)) (at m.overrides o) v (hold_each (value_tests x i.place) (at m.overrides o) t.1) (subst (λ l. In l v) (sym (at_is m.overrides o v g)) (inl refl)) in
      in_all (λ z. z < x) (init_of v) e (below_from_hold rule.Earlier table.Expressions x i.place (init_of v) b) j

  -- the types that an expression names

  named_itself : (i : Item) (u : ℕ) → In (type_of i) u → In (types_named m i) u
  named_itself i u h = in_left (type_of i) (flat_map type_of (flat_map (at m.constants) (own table.Constants i)) ++ flat_map type_of (flat_map (at m.overrides) (own table.Overrides i))) u h

  named_by_constant : (i v : Item) (c u : ℕ) → In (own table.Constants i) c → slice_get m.constants c ≡ Some v → In (type_of v) u → In (types_named m i) u
  named_by_constant i v c u h g j =
      let constants = flat_map type_of (flat_map (at m.constants) (own table.Constants i)) in
      let overrides = flat_map type_of (flat_map (at m.overrides) (own table.Overrides i)) in
      in_right (type_of i) (constants ++ overrides) u
      (in_left constants overrides u
      (in_flat type_of (flat_map (at m.constants) (own table.Constants i)) v u
      (in_flat (at m.constants) (own table.Constants i) c v h (subst (λ l. In l v) (sym (at_is m.constants c v g)) (inl refl))) j))

  named_by_override : (i v : Item) (o u : ℕ) → In (own table.Overrides i) o → slice_get m.overrides o ≡ Some v → In (type_of v) u → In (types_named m i) u
  named_by_override i v o u h g j =
      let constants = flat_map type_of (flat_map (at m.constants) (own table.Constants i)) in
      let overrides = flat_map type_of (flat_map (at m.overrides) (own table.Overrides i)) in
      in_right (type_of i) (constants ++ overrides) u
      (in_right constants overrides u
      (in_flat type_of (flat_map (at m.overrides) (own table.Overrides i)) v u
      (in_flat (at m.overrides) (own table.Overrides i) o v h (subst (λ l. In l v) (sym (at_is m.overrides o v g)) (inl refl))) j))

  -- they do not wait for it
  room_before : (x u : ℕ) (j : Item) → slice_get m.expressions x ≡ Some j → In (types_named m j) u → room m u ≤ x
  room_before x u j s h = room_under m u x each
    where
      each : (t e : ℕ) (i : Item) → t ≤ u → slice_get m.types t ≡ Some i → In (inits m i) e → e < x
      each t e i l g z =
          elim (cases_lt e x) [
            | inl b ↦ b
            | inr b ↦
                let front = take (suc e) m.expressions in
                let a = in_all (λ y. AllHold (up_to_tests m t i.place y)) (inits m i) e (hold_each (up_to_tests m t i.place) (inits m i) (hold_numbered (seals.pending_tests m) m.types p.sized t i g)) z in
                let c = in_all (λ y. AllHold (waited_tests m t i.place y)) front j (hold_each (waited_tests m t i.place) front a) (in_from_get front x j (get_take m.expressions (suc e) x j s (omega arith))) in
                let d = in_all (λ y. y < t) (types_named m j) u (below_from_hold rule.SealedEarlier table.Types t i.place (types_named m j) c) h in
                absurd (omega arith)
          ]

  -- the rank falls along each handle

  inside : ModuleInside m
  inside = module_inside m w p

  handle_inside : (items : List Item) (n : ℕ) (i : Item) (y : RowItem) → ItemsInside (sizes m) items → slice_get items n ≡ Some i → In (handles i) (handle_of y) → IsInside (sizes m) (handle_of y)
  handle_inside items n i y a s h = in_all (IsInside (sizes m)) (handles i) (handle_of y) (all_at (ItemInside (sizes m)) items n i a s) h

  there : (y : RowItem) → IsInside (sizes m) (handle_of y) → IsItemOf m y
  there (RowItem.type t) l = l
  there (RowItem.override o) l = l
  there (RowItem.constant c) l = l
  there (RowItem.expression e) l = l

  stays : (x y : RowItem) → PointsTo m x y → IsItemOf m y
  stays (RowItem.type t) y q = let e = edge (RowItem.type t) y q in there y (handle_inside m.types t e.0 y inside.types e.1 e.2)
  stays (RowItem.override o) y q = let e = edge (RowItem.override o) y q in there y (handle_inside m.overrides o e.0 y inside.overrides e.1 e.2)
  stays (RowItem.constant c) y q = let e = edge (RowItem.constant c) y q in there y (handle_inside m.constants c e.0 y inside.constants e.1 e.2)
  stays (RowItem.expression x) y q = let e = edge (RowItem.expression x) y q in there y (handle_inside m.expressions x e.0 y inside.expressions e.1 e.2)

  -- a type, an override and a constant have no other handles
  type_has : (t : ℕ) (i : Item) → slice_get m.types t ≡ Some i → (y : RowItem) → In (handles i) (handle_of y) → type_tables (table_of (handle_of y)) ≡ true
  type_has t i s y h = in_all (Allowed type_tables) (handles i) (handle_of y) (type_allowed i (all_at AType m.types t i w.types s)) h

  override_has : (o : ℕ) (v : Item) → slice_get m.overrides o ≡ Some v → (y : RowItem) → In (handles v) (handle_of y) → value_tables (table_of (handle_of y)) ≡ true
  override_has o v s y h = let a = all_at (Made kind.Override) m.overrides o v w.overrides s in in_all (Allowed value_tables) (handles v) (handle_of y) (made_allowed value_tables kind.Override v a refl refl) h

  constant_has : (c : ℕ) (v : Item) → slice_get m.constants c ≡ Some v → (y : RowItem) → In (handles v) (handle_of y) → value_tables (table_of (handle_of y)) ≡ true
  constant_has c v s y h = let a = all_at (Made kind.Constant) m.constants c v w.constants s in in_all (Allowed value_tables) (handles v) (handle_of y) (made_allowed value_tables kind.Constant v a refl refl) h

  type_over_override : (t o : ℕ) → PointsTo m (RowItem.type t) (RowItem.override o) → rank m (RowItem.override o) < rank m (RowItem.type t)
  type_over_override t o q =
      let e = edge (RowItem.type t) (RowItem.override o) q in
      let v = got m.overrides o (stays (RowItem.type t) (RowItem.override o) q) in
      let size = size_of t o e.0 e.1 e.2 in
      subst (λ r. r < type_rank m t) (sym (value_rank_is m m.overrides o v.0 v.1))
      (value_below m v.0 (type_rank m t) (type_positive m t)
      (λ u h. type_type m u t (sized_earlier t o u e.0 v.0 e.1 size v.1 h))
      (λ x h. expression_type m x t (room_over m t t x e.0 (omega arith) e.1 (waited o x e.0 v.0 size v.1 h))))

  -- the type of an override or a constant is inside
  type_of_value : (values : List Item) (n u : ℕ) (v : Item) → ItemsInside (sizes m) values → slice_get values n ≡ Some v → In (type_of v) u → u < length m.types
  type_of_value values n u v a s h = in_all (λ t. t < length m.types) (type_of v) u (types_within m v (all_at (ItemInside (sizes m)) values n v a s)) h

  expression_over_override : (x o : ℕ) → PointsTo m (RowItem.expression x) (RowItem.override o) → rank m (RowItem.override o) < rank m (RowItem.expression x)
  expression_over_override x o q =
      let e = edge (RowItem.expression x) (RowItem.override o) q in
      let v = got m.overrides o (stays (RowItem.expression x) (RowItem.override o) q) in
      let mine = own_of table.Overrides one_override refl x o e.0 e.1 e.2 in
      subst (λ r. r < expression_rank m x) (sym (value_rank_is m m.overrides o v.0 v.1))
      (value_below m v.0 (expression_rank m x) (expression_positive m x)
      (λ u h. type_expression m u x (type_of_value m.overrides o u v.0 inside.overrides v.1 h) (room_before x u e.0 e.1 (named_by_override e.0 v.0 o u mine v.1 h)))
      (λ y h. expression_expression m y x (override_init x o y e.0 v.0 e.1 mine v.1 h)))

  expression_over_constant : (x c : ℕ) → PointsTo m (RowItem.expression x) (RowItem.constant c) → rank m (RowItem.constant c) < rank m (RowItem.expression x)
  expression_over_constant x c q =
      let e = edge (RowItem.expression x) (RowItem.constant c) q in
      let v = got m.constants c (stays (RowItem.expression x) (RowItem.constant c) q) in
      let mine = own_of table.Constants one_constant refl x c e.0 e.1 e.2 in
      subst (λ r. r < expression_rank m x) (sym (value_rank_is m m.constants c v.0 v.1))
      (value_below m v.0 (expression_rank m x) (expression_positive m x)
      (λ u h. type_expression m u x (type_of_value m.constants c u v.0 inside.constants v.1 h) (room_before x u e.0 e.1 (named_by_constant e.0 v.0 c u mine v.1 h)))
      (λ y h. expression_expression m y x (constant_init x c y e.0 v.0 e.1 mine v.1 h)))

  falls : (x y : RowItem) → PointsTo m x y → rank m y < rank m x
  falls (RowItem.type t) (RowItem.type u) q = let e = edge (RowItem.type t) (RowItem.type u) q in let l = type_type m u t (earlier_type t u e.0 e.1 e.2) in omega arith
  falls (RowItem.type t) (RowItem.override o) q = type_over_override t o q
  falls (RowItem.type t) (RowItem.constant c) q = let e = edge (RowItem.type t) (RowItem.constant c) q in let a = type_has t e.0 e.1 (RowItem.constant c) e.2 in absurd cc
  falls (RowItem.type t) (RowItem.expression x) q = let e = edge (RowItem.type t) (RowItem.expression x) q in let a = type_has t e.0 e.1 (RowItem.expression x) e.2 in absurd cc
  falls (RowItem.override o) (RowItem.type u) q =
      let e = edge (RowItem.override o) (RowItem.type u) q in
      let l = value_above_type m e.0 u (value_type kind.Override e.0 (all_at (Made kind.Override) m.overrides o e.0 w.overrides e.1) (omega arith) refl u e.2) in
      subst (λ r. type_rank m u < r) (sym (value_rank_is m m.overrides o e.0 e.1)) l
  falls (RowItem.override o) (RowItem.override z) q = let e = edge (RowItem.override o) (RowItem.override z) q in let a = override_has o e.0 e.1 (RowItem.override z) e.2 in absurd cc
  falls (RowItem.override o) (RowItem.constant c) q = let e = edge (RowItem.override o) (RowItem.constant c) q in let a = override_has o e.0 e.1 (RowItem.constant c) e.2 in absurd cc
  falls (RowItem.override o) (RowItem.expression x) q =
      let e = edge (RowItem.override o) (RowItem.expression x) q in
      let l = value_above_init m e.0 x (value_init kind.Override e.0 (all_at (Made kind.Override) m.overrides o e.0 w.overrides e.1) (omega arith) refl x e.2) in
      subst (λ r. expression_rank m x < r) (sym (value_rank_is m m.overrides o e.0 e.1)) l
  falls (RowItem.constant c) (RowItem.type u) q =
      let e = edge (RowItem.constant c) (RowItem.type u) q in
      let l = value_above_type m e.0 u (value_type kind.Constant e.0 (all_at (Made kind.Constant) m.constants c e.0 w.constants e.1) (omega arith) refl u e.2) in
      subst (λ r. type_rank m u < r) (sym (value_rank_is m m.constants c e.0 e.1)) l
  falls (RowItem.constant c) (RowItem.override z) q = let e = edge (RowItem.constant c) (RowItem.override z) q in let a = constant_has c e.0 e.1 (RowItem.override z) e.2 in absurd cc
  falls (RowItem.constant c) (RowItem.constant d) q = let e = edge (RowItem.constant c) (RowItem.constant d) q in let a = constant_has c e.0 e.1 (RowItem.constant d) e.2 in absurd cc
  falls (RowItem.constant c) (RowItem.expression x) q =
      let e = edge (RowItem.constant c) (RowItem.expression x) q in
      let l = value_above_init m e.0 x (value_init kind.Constant e.0 (all_at (Made kind.Constant) m.constants c e.0 w.constants e.1) (omega arith) refl x e.2) in
      subst (λ r. expression_rank m x < r) (sym (value_rank_is m m.constants c e.0 e.1)) l
  falls (RowItem.expression x) (RowItem.type u) q =
      let e = edge (RowItem.expression x) (RowItem.type u) q in
      let i : u < length m.types = stays (RowItem.expression x) (RowItem.type u) q in
      let l = type_expression m u x i (room_before x u e.0 e.1 (named_itself e.0 u (own_of table.Types one_type refl x u e.0 e.1 e.2))) in
      omega arith
  falls (RowItem.expression x) (RowItem.override o) q = expression_over_override x o q
  falls (RowItem.expression x) (RowItem.constant c) q = expression_over_constant x c q
  falls (RowItem.expression x) (RowItem.expression y) q = let e = edge (RowItem.expression x) (RowItem.expression y) q in let l = expression_expression m y x (earlier_operand x y e.0 e.1 e.2) in omega arith

  -- any list of all items in the order of their ranks is a row
  pub in_order_is_row : (row : List RowItem) → Sorted (rank m) (row_items m) row → IsModuleRow m row
  in_order_is_row row s =
      let items = row_items m in
      let in_list : (x : RowItem) → IsItemOf m x → Has items x = λ x h. has_from_in items x (in_items m x h) in
      let in_module : (x : RowItem) → Has items x → IsItemOf m x = λ x h. from_items m x (in_from_has items x h) in
      let r = sorted_is_row (PointsTo m) items row (rank m) s (λ x y i q. in_list y (stays x y q)) (λ x y i q. falls x y q) in
      record {
        each = λ x h. r.each x (in_list x h);
        only = λ x h. in_module x (r.only x h);
        once = r.once;
        after = r.after;
      }

  pub is_row : IsModuleRow m (row m)
  unfolding row
  is_row = in_order_is_row (row m) (sorted (rank m) (row_items m) (apart_items m))

pub sealed_row : SealedRow
sealed_row m a e = let d = sealed_draft m a e in is_row (state m).built d.made d.passed

-- and so is, where sealing accepts, a permutation of the items that rises by rank
pub permuted_row : (records : List Record) → Accepted start records → seal_of (state records) ≡ None → (row : List RowItem) → IsPermutation (row_items (state records).built) row → IsNonDecreasingBy (rank (state records).built) row → IsModuleRow (state records).built row
permuted_row m a e row p r =
    let d = sealed_draft m a e in
    let n = (state m).built in
    in_order_is_row n d.made d.passed row (permuted (rank n) (row_items n) row (once_from_apart (row_items n) (apart_items n)) p r)
