-- The handles of types and of global expressions are inside.
use Rattle.std.proofs.Common.{◌≡◌, ℕ, ◌<◌, ◌≤◌, Bool, true, false, ◌||◌, List, [], map, filter, length, take, flat_map, Ok, sym, refl, ap, subst, inl, inr, ◌⊎◌, arith, ltb-true}
use Rattle.std.proofs.ByRecursion.{All-weaker}
use Rattle.std.proofs.lemmas.Bool.{or_parts, not-true}
use Rattle.ir.specs.declared.handle.Table.{Table}
use Rattle.ir.specs.declared.handle.Table.TheVariants as table
use Rattle.ir.specs.declared.kinds.Kind.TheVariants as kind
use Rattle.ir.specs.declared.kinds.TypeInner.{TypeInner}
use Rattle.ir.specs.declared.kinds.TypeInner.TheVariants as type
use Rattle.ir.specs.declared.kinds.Expression.{Expression}
use Rattle.ir.specs.declared.kinds.Expression.TheVariants as expression
use Rattle.ir.specs.Layout.{layout}
use Rattle.ir.specs.Number.{number_of}
use Rattle.records.specs.Handles.{handles_of}
use Rattle.records.specs.Record.{judged}
use Rattle.rules.specs.declared.faults.Rule.TheVariants as rule
use Rattle.rules.specs.Module.{Item, Module}
use Rattle.rules.specs.Kinds.{Constant, Override, starts_with, is}
use Rattle.rules.specs.Sizes.{sizes}
use Rattle.rules.specs.Items.{handles, is_of, numbers, own, pending_of}
use Rattle.rules.specs.Fault.{earlier}
use Rattle.rules.specs.Check.{const_expression_tests, constant_tests, override_tests, pending_tests, base_tests, type_tests}
use Rattle.rules.specs.Verdict.{AllHold}
use Rattle.rules.proofs.Passing.{hold_left, hold_right, hold_each, below_from_hold}
use Rattle.draft.specs.Manner.{taken_by_type, taken_by_expression}
use Rattle.laws.proofs.KindBytes.{starts_so}
use Rattle.sealing.specs.Seal as seals
use Rattle.sealing.specs.Seal.{seal, seal_of, all_tests, seal_tests, in_bodies_only, ty_tests, argument_tests, compare_tests}
use Rattle.sealing.proofs.FieldTables.{fields_allowed}
use Rattle.promises.specs.Inside.{IsInside, ItemInside}
use Rattle.promises.proofs.Handles.{inside_from_hold, OfTable, by_tables, from_numbers, from_filter, fields_most, own_is, none_are}
use Rattle.promises.proofs.Made.{starts_is, allowed_of, AType, AnExpression}
use Rattle.promises.proofs.Tested.{All, only, pieces_allowed, below_size, own_numbers, taking}

-- types

abbrev pub type_tables : Table → Bool
type_tables table.Types = true
type_tables table.Overrides = true
type_tables _ = false

pub type_layouts : (y : TypeInner) → fields_allowed type_tables (layout (kind.Type y)) ≡ true
type_layouts type.Scalar = refl
type_layouts y = refl

pub type_takes : (y : TypeInner) → pieces_allowed (only table.Types) (taken_by_type y) ≡ true
type_takes type.Scalar = refl
type_takes y = refl

pub one_size : (y : TypeInner) → fields_most table.Overrides (layout (kind.Type y)) ≤ 1
one_size type.Scalar = omega arith
one_size y = omega arith

module _ (m : Module) where
  pub type_inside : (t : ℕ) (i : Item) → t < length m.types → AType i → AllHold (type_tests m t i) → ItemInside (sizes m) i
  type_inside t i l (y, w) h =
      let s = sizes m in
      let hs = handles_of i.bytes in
      let before = below_size t (length m.types) (numbers table.Types (handles i)) (omega arith) (below_from_hold rule.Earlier table.Types t i.place (numbers table.Types (handles i)) (hold_left (base_tests t i) (flat_map (pending_tests m t i.place) (pending_of i)) h)) in
      let sized : All (λ o. o < length m.overrides) (pending_of i) =
      All-weaker (λ o. AllHold (pending_tests m t i.place o)) (λ o. o < length m.overrides) (λ o q. ltb-true o (length m.overrides) q.0) (pending_of i)
      (hold_each (pending_tests m t i.place) (pending_of i) (hold_right (base_tests t i) (flat_map (pending_tests m t i.place) (pending_of i)) h)) in
      let sizes_inside = subst (All (λ o. o < length m.overrides)) (own_is table.Overrides i.bytes (kind.Type y) w.kind_is (one_size y)) sized in
      taking s table.Types (taken_by_type y) i w.taken (type_takes y) before
      (by_tables type_tables (IsInside s) hs (allowed_of type_tables i.bytes (kind.Type y) w.kind_is (type_layouts y))
      (λ u e. of_type u e (from_numbers s table.Types hs (own_numbers (λ x. x < length m.types) table.Types i before)) (from_numbers s table.Overrides hs sizes_inside)))
    where
      of_type : (u : Table) → type_tables u ≡ true → OfTable table.Types (IsInside (sizes m)) (handles_of i.bytes) → OfTable table.Overrides (IsInside (sizes m)) (handles_of i.bytes) → OfTable u (IsInside (sizes m)) (handles_of i.bytes)
      of_type table.Types e a b = a
      of_type table.Overrides e a b = b
      of_type u e a b = absurd cc

-- global expressions

abbrev global_tables : Table → Bool
global_tables table.Types = true
global_tables table.Constants = true
global_tables table.Overrides = true
global_tables table.Expressions = true
global_tables _ = false

pub expression_takes : (y : Expression) → pieces_allowed (only table.Expressions) (taken_by_expression y) ≡ true
expression_takes expression.Literal = refl
expression_takes y = refl

-- an expression that may stand there has handles of these tables
module _ (a b c d : Bool) (e : (a || (b || (c || d))) ≡ false) where
  second : b ≡ false
  second = (or_parts b (c || d) (or_parts a (b || (c || d)) e).1).0

  third : c ≡ false
  third = (or_parts c d (or_parts b (c || d) (or_parts a (b || (c || d)) e).1).1).0

  fourth : d ≡ false
  fourth = (or_parts c d (or_parts b (c || d) (or_parts a (b || (c || d)) e).1).1).1

global_layouts : (y : Expression) (i : Item) → starts_with (number_of (kind.Expression y)) i.bytes ≡ true → in_bodies_only i ≡ false → fields_allowed global_tables (layout (kind.Expression y)) ≡ true
global_layouts expression.GlobalVariable i s e = let f = second (is 73 i) (is 74 i) (is 75 i) (is 87 i) e in absurd cc
global_layouts expression.LocalVariable i s e = let f = third (is 73 i) (is 74 i) (is 75 i) (is 87 i) e in absurd cc
global_layouts expression.CallResult i s e = let f = fourth (is 73 i) (is 74 i) (is 75 i) (is 87 i) e in absurd cc
global_layouts y i s e = refl

pub one_constant : (y : Expression) → fields_most table.Constants (layout (kind.Expression y)) ≤ 1
one_constant expression.Literal = omega arith
one_constant y = omega arith

pub one_override : (y : Expression) → fields_most table.Overrides (layout (kind.Expression y)) ≤ 1
one_override expression.Literal = omega arith
one_override y = omega arith

constant_or_none : (y : Expression) → (y ≡ expression.Constant) ⊎ (fields_most table.Constants (layout (kind.Expression y)) ≡ 0)
constant_or_none expression.Constant = inl refl
constant_or_none y = inr refl

override_or_none : (y : Expression) → (y ≡ expression.Override) ⊎ (fields_most table.Overrides (layout (kind.Expression y)) ≡ 0)
override_or_none expression.Override = inl refl
override_or_none y = inr refl

none_hold : (P : ℕ → Type 0) (ns : List ℕ) → ns ≡ [] → All P ns
none_hold P ns e = subst (All P) (sym e) tt

module _ (m : Module) where
  -- the tests of the constants and of the overrides that it names
  pub constants_tested : (x : ℕ) (i : Item) (y : Expression) → judged i.bytes ≡ Ok (kind.Expression y) → AllHold (const_expression_tests m x i) → All (λ c. AllHold (constant_tests m x i.place c)) (own table.Constants i)
  constants_tested x i y j h =
      elim (constant_or_none y) [
        | inl e ↦
            let k : judged i.bytes ≡ Ok (kind.Expression expression.Constant) = subst (λ z. judged i.bytes ≡ Ok (kind.Expression z)) e j in
            let at : is Constant i ≡ true = starts_is i.bytes (kind.Expression expression.Constant) k in
            let tests : AllHold (flat_map (constant_tests m x i.place) (own table.Constants i)) = rw at at h in
            hold_each (constant_tests m x i.place) (own table.Constants i) tests
        | inr e ↦ none_hold (λ c. AllHold (constant_tests m x i.place c)) (own table.Constants i) (ap (take 1) (none_are table.Constants i.bytes (kind.Expression y) j e))
      ]

  pub overrides_tested : (x : ℕ) (i : Item) (y : Expression) → judged i.bytes ≡ Ok (kind.Expression y) → AllHold (const_expression_tests m x i) → All (λ o. AllHold (override_tests m x i.place o)) (own table.Overrides i)
  overrides_tested x i y j h =
      elim (override_or_none y) [
        | inl e ↦
            let k : judged i.bytes ≡ Ok (kind.Expression expression.Override) = subst (λ z. judged i.bytes ≡ Ok (kind.Expression z)) e j in
            let other : is Constant i ≡ false = ap (starts_with Constant) (starts_so (kind.Expression expression.Override) i.bytes k).1 in
            let at : is Override i ≡ true = starts_is i.bytes (kind.Expression expression.Override) k in
            let tests : AllHold (flat_map (override_tests m x i.place) (own table.Overrides i)) = rw (other, at) at h in
            hold_each (override_tests m x i.place) (own table.Overrides i) tests
        | inr e ↦ none_hold (λ o. AllHold (override_tests m x i.place o)) (own table.Overrides i) (ap (take 1) (none_are table.Overrides i.bytes (kind.Expression y) j e))
      ]

  -- they are inside
  constants_named : (x : ℕ) (i : Item) (y : Expression) → judged i.bytes ≡ Ok (kind.Expression y) → AllHold (const_expression_tests m x i) → All (λ c. c < length m.constants) (numbers table.Constants (handles_of i.bytes))
  constants_named x i y j h =
      subst (All (λ c. c < length m.constants)) (own_is table.Constants i.bytes (kind.Expression y) j (one_constant y))
      (All-weaker (λ c. AllHold (constant_tests m x i.place c)) (λ c. c < length m.constants) (λ c q. ltb-true c (length m.constants) q.0) (own table.Constants i) (constants_tested x i y j h))

  overrides_named : (x : ℕ) (i : Item) (y : Expression) → judged i.bytes ≡ Ok (kind.Expression y) → AllHold (const_expression_tests m x i) → All (λ o. o < length m.overrides) (numbers table.Overrides (handles_of i.bytes))
  overrides_named x i y j h =
      subst (All (λ o. o < length m.overrides)) (own_is table.Overrides i.bytes (kind.Expression y) j (one_override y))
      (All-weaker (λ o. AllHold (override_tests m x i.place o)) (λ o. o < length m.overrides) (λ o q. ltb-true o (length m.overrides) q.0) (own table.Overrides i) (overrides_tested x i y j h))

  abbrev pub ConstTested : Item → Type 0
  ConstTested i = (x : ℕ) × AllHold (const_expression_tests m x i)

  pub global_inside : (x : ℕ) (i : Item) → x < length m.expressions → AnExpression i × ConstTested i → AllHold (seals.global_tests (sizes m) x i) → ItemInside (sizes m) i
  global_inside x i l ((y, w), (z, c)) h =
      let s = sizes m in
      let hs = handles_of i.bytes in
      let placed = not-true (in_bodies_only i) h.0 in
      let operands = map (earlier rule.SealedEarlier table.Expressions x i.place) (numbers table.Expressions (handles i)) in
      let before = below_size x (length m.expressions) (numbers table.Expressions (handles i)) (omega arith) (below_from_hold rule.SealedEarlier table.Expressions x i.place (numbers table.Expressions (handles i)) (hold_left operands (ty_tests s i) h.1)) in
      let types = from_filter table.Types (IsInside s) hs (inside_from_hold rule.SealedInside s i.place (filter (is_of table.Types) hs) (hold_right operands (ty_tests s i) h.1)) in
      let expressions = from_numbers s table.Expressions hs (own_numbers (λ n. n < length m.expressions) table.Expressions i before) in
      let constants = from_numbers s table.Constants hs (constants_named z i y w.kind_is c) in
      let overrides = from_numbers s table.Overrides hs (overrides_named z i y w.kind_is c) in
      taking s table.Expressions (taken_by_expression y) i w.taken (expression_takes y) before
      (by_tables global_tables (IsInside s) hs (allowed_of global_tables i.bytes (kind.Expression y) w.kind_is (global_layouts y i (starts_is i.bytes (kind.Expression y) w.kind_is) placed))
      (λ u e. of_global u e types constants overrides expressions))
    where
      of_global : (u : Table) → global_tables u ≡ true → OfTable table.Types (IsInside (sizes m)) (handles_of i.bytes) → OfTable table.Constants (IsInside (sizes m)) (handles_of i.bytes) → OfTable table.Overrides (IsInside (sizes m)) (handles_of i.bytes) → OfTable table.Expressions (IsInside (sizes m)) (handles_of i.bytes) → OfTable u (IsInside (sizes m)) (handles_of i.bytes)
      of_global table.Types e a b c d = a
      of_global table.Constants e a b c d = b
      of_global table.Overrides e a b c d = c
      of_global table.Expressions e a b c d = d
      of_global u e a b c d = absurd cc
