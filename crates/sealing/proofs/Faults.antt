-- The check and sealing answer no other faults: test by test, by what makes the tests.
use Rattle.std.proofs.Common.{◌≡◌, ℕ, suc, Bool, true, false, cond, ◌||◌, List, [], ◌∷◌, map, filter, take, flat_map, Some, None, Option, refl, subst}
use Rattle.std.specs.List.{AllByRecursion}
use Rattle.std.specs.Option.{option_to_list}
use Rattle.std.proofs.ByRecursion.{All-append, All-weaker}
use Rattle.std.proofs.lemmas.Bool.{or_left}
use Rattle.std.proofs.lemmas.Option.{same_Some}
use Rattle.ir.specs.declared.handle.Table.{Table}
use Rattle.ir.specs.declared.handle.Table.TheVariants as table
use Rattle.ir.specs.declared.handle.Handle.{Handle}
use Rattle.ir.specs.declared.handle.Handle.TheVariants as handle
use Rattle.ir.specs.declared.kinds.Kind.TheVariants as kind
use Rattle.ir.specs.declared.kinds.Statement.TheVariants as statement
use Rattle.records.specs.Handles.{handles_of}
use Rattle.rules.specs.declared.faults.Rule.TheVariants as rule
use Rattle.rules.specs.declared.faults.Fault.{Fault}
use Rattle.rules.specs.declared.sizes.Sizes.{Sizes}
use Rattle.rules.specs.Module.{Item, Body, Module}
use Rattle.rules.specs.Kinds.{Constant, Override, Compose, Emit, ImageAtomic, is, makes_value}
use Rattle.rules.specs.Sizes.{sizes, sizes_in}
use Rattle.rules.specs.Items.{handles, fields, is_of, numbers, own, init_of, pending_of, at}
use Rattle.rules.specs.Fault.{Test, first, inside, earlier, range, fault_kind, all_inside, own_inside, numbered_from}
use Rattle.rules.specs.Check.{value_tests, constant_tests, override_tests, const_expression_tests, returned, sized_tests, init_tests, size_tests, pending_tests, base_tests, type_tests, named_tests, operand_tests, expression_tests, tested, start_of, end_of, statement_tests, body_leaf, body_tests, entry_handles, entry_tests, special_tests, filter_tests, later_tests, check_tests}
use Rattle.rules.specs.Once.{inits}
use Rattle.sealing.specs.Seal as seals
use Rattle.sealing.specs.Seal.{seal, all_tests, seal_tests}
use Rattle.sealing.specs.Faults.{of_check, of_seal, NoOtherFaults}
use Rattle.sealing.proofs.FieldTables.{Allowed, record_allowed, field_of_allowed}

-- what holds of every test, whichever way the tests are put together
module _ (P : Test → Type 0) where
  abbrev All : List Test → Type 0
  All ts = AllByRecursion P ts

  each : {X : Type 0} (f : X → List Test) → ((x : X) → All (f x)) → (xs : List X) → All (flat_map f xs)
  each f h [] = tt
  each f h (x ∷ xs) = All-append P (f x) (flat_map f xs) (h x) (each f h xs)

  counted : {X : Type 0} (f : ℕ → X → List Test) → ((n : ℕ) (x : X) → All (f n x)) → (n : ℕ) (xs : List X) → All (numbered_from f n xs)
  counted f h n [] = tt
  counted f h n (x ∷ xs) = All-append P (f n x) (numbered_from f (suc n) xs) (h n x) (counted f h (suc n) xs)

  mapped : {X : Type 0} (f : X → Test) → ((x : X) → P (f x)) → (xs : List X) → All (map f xs)
  mapped f h [] = tt
  mapped f h (x ∷ xs) = (h x, mapped f h xs)

  either : (b : Bool) (a c : List Test) → All a → All c → All (cond b a c)
  either true a c h k = h
  either false a c h k = k

  found : (b : Bool) (t : Test) (later : Option Fault) (f : Fault) → P t → (later ≡ Some f → (u : Test) × P u × (u.fault ≡ f)) → cond b later (Some t.fault) ≡ Some f → (u : Test) × P u × (u.fault ≡ f)
  found true t later f h next e = next e
  found false t later f h next e = (t, h, same_Some t.fault f e)

  first_is : (ts : List Test) → All ts → (f : Fault) → first ts ≡ Some f → (t : Test) × P t × (t.fault ≡ f)
  first_is [] h f e = absurd cc
  first_is (t ∷ ts) h f e = found t.passes t (first ts) f h.0 (first_is ts h.1 f) e

abbrev Checked : Test → Type 0
Checked t = of_check t.fault.rule t.fault.kind ≡ true

inside_checked : (s : Sizes) (place : ℕ) (h : Handle) → Checked (inside rule.Inside s place h)
inside_checked s place (handle.Type h) = refl
inside_checked s place h = refl

all_checked : (s : Sizes) (place : ℕ) (hs : List Handle) → AllByRecursion Checked (all_inside rule.Inside s place hs)
all_checked s place hs = mapped Checked (inside rule.Inside s place) (inside_checked s place) hs

own_checked : (s : Sizes) (i : Item) → AllByRecursion Checked (own_inside rule.Inside s i)
own_checked s i = all_checked s i.place (handles_of i.bytes)

earlier_checked : (t : Table) → of_check rule.Earlier (fault_kind t) ≡ true → (n place : ℕ) (xs : List ℕ) → AllByRecursion Checked (map (earlier rule.Earlier t n place) xs)
earlier_checked t e n place xs = mapped Checked (earlier rule.Earlier t n place) (λ x. e) xs

value_checked : (x place : ℕ) (v : Item) → AllByRecursion Checked (value_tests x place v)
value_checked x place v = earlier_checked table.Expressions refl x place (init_of v)

module _ (m : Module) where
  constant_checked : (x place c : ℕ) → AllByRecursion Checked (constant_tests m x place c)
  constant_checked x place c = (refl, each Checked (value_tests x place) (value_checked x place) (at m.constants c))

  override_checked : (x place o : ℕ) → AllByRecursion Checked (override_tests m x place o)
  override_checked x place o = (refl, each Checked (value_tests x place) (value_checked x place) (at m.overrides o))

  const_checked : (x : ℕ) (i : Item) → AllByRecursion Checked (const_expression_tests m x i)
  const_checked x i =
      either Checked (is Constant i) _ _ (each Checked (constant_tests m x i.place) (constant_checked x i.place) (own table.Constants i))
      (either Checked (is Override i) _ _ (each Checked (override_tests m x i.place) (override_checked x i.place) (own table.Overrides i))
      (either Checked (is Compose i) _ [] (earlier_checked table.Expressions refl x i.place (numbers table.Expressions (handles i))) tt))

  sized_checked : (t place x : ℕ) (i : Item) → AllByRecursion Checked (sized_tests m t place x i)
  sized_checked t place x i = All-append Checked (const_expression_tests m x i) _ (const_checked x i) (earlier_checked table.Types refl t place (returned i))

  init_checked : (t place e : ℕ) → AllByRecursion Checked (init_tests m t place e)
  init_checked t place e = (refl, counted Checked (sized_tests m t place) (sized_checked t place) 0 (take (suc e) m.expressions))

  size_checked : (t place : ℕ) (v : Item) → AllByRecursion Checked (size_tests m t place v)
  size_checked t place v = All-append Checked _ (flat_map (init_tests m t place) (init_of v)) (earlier_checked table.Types refl t place _) (each Checked (init_tests m t place) (init_checked t place) (init_of v))

  pending_checked : (t place o : ℕ) → AllByRecursion Checked (pending_tests m t place o)
  pending_checked t place o = (refl, each Checked (size_tests m t place) (size_checked t place) (at m.overrides o))

  type_checked : (t : ℕ) (i : Item) → AllByRecursion Checked (type_tests m t i)
  type_checked t i =
      All-append Checked (base_tests t i) (flat_map (pending_tests m t i.place) (pending_of i)) (earlier_checked table.Types refl t i.place (numbers table.Types (handles i)))
      (each Checked (pending_tests m t i.place) (pending_checked t i.place) (pending_of i))

module _ (s : Sizes) where
  named_checked : (place : ℕ) (f : Option ℕ) (i : Item) (h : Handle) → AllByRecursion Checked (named_tests s place f i h)
  named_checked place f i (handle.Type h) = either Checked (makes_value i) _ [] (refl, tt) tt
  named_checked place f i (handle.Expression h) = tt
  named_checked place f i (handle.Function h) = (refl, mapped Checked (λ caller. earlier rule.Earlier table.Functions caller place h.index) (λ c. refl) (option_to_list f))
  named_checked place f i h = (refl, tt)

  expression_checked : (place : ℕ) (f : Option ℕ) (n : ℕ) (i : Item) → AllByRecursion Checked (expression_tests s place f n i)
  expression_checked place f n i =
      All-append Checked (flat_map (named_tests s place f i) (handles_of i.bytes)) (operand_tests n i) (each Checked (named_tests s place f i) (named_checked place f i) (handles_of i.bytes))
      (earlier_checked table.Expressions refl n i.place (numbers table.Expressions (handles i)))

  statement_checked : (i : Item) → AllByRecursion Checked (statement_tests s i)
  statement_checked i = either Checked (is Emit i) (range s.expressions i.place (start_of i) (end_of i) ∷ []) (all_inside rule.Inside s i.place (tested i)) (refl, tt) (all_checked s i.place (tested i))

body_checked : (s : Sizes) (f : Option ℕ) (b : Body) → AllByRecursion Checked (body_tests s f b)
body_checked s f b =
    let in_body = sizes_in s b in
    let owned : (xs : List Item) → AllByRecursion Checked (flat_map (own_inside rule.Inside in_body) xs) = each Checked (own_inside rule.Inside in_body) (own_checked in_body) in
    All-append Checked _ _ (owned b.arguments)
    (All-append Checked _ _ (owned (option_to_list b.result))
    (All-append Checked _ _ (owned b.locals)
    (All-append Checked _ _ (owned b.named)
    (All-append Checked _ _ (counted Checked (expression_tests in_body b.opener.place f) (expression_checked in_body b.opener.place f) 0 b.expressions)
    (All-append Checked _ _ (each Checked (statement_tests in_body) (statement_checked in_body) b.statements)
    (all_checked s b.opener.place (body_leaf b.opener)))))))

entry_checked : (s : Sizes) (b : Body) → AllByRecursion Checked (entry_tests s b)
entry_checked s b = All-append Checked (body_tests s None b) _ (body_checked s None b) (all_checked s b.opener.place (entry_handles b.opener))

module _ (m : Module) where
  later_checked : AllByRecursion Checked (later_tests m)
  later_checked =
      let owned : (xs : List Item) → AllByRecursion Checked (flat_map (own_inside rule.Inside (sizes m)) xs) = each Checked (own_inside rule.Inside (sizes m)) (own_checked (sizes m)) in
      All-append Checked _ _ (owned m.constants)
      (All-append Checked _ _ (owned m.overrides)
      (All-append Checked _ _ (owned m.globals)
      (All-append Checked _ _ (each Checked (entry_tests (sizes m)) (entry_checked (sizes m)) m.entries)
      (All-append Checked _ _ (counted Checked (λ f. body_tests (sizes m) (Some f)) (λ f. body_checked (sizes m) (Some f)) 0 m.functions)
      (All-append Checked _ _ (each Checked (special_tests (sizes m)) (λ i. all_checked (sizes m) i.place (fields (0 ∷ 1 ∷ 2 ∷ []) i)) (option_to_list m.special))
      (All-append Checked _ _ (counted Checked filter_tests (λ n i. earlier_checked table.Filters refl n i.place (numbers table.Filters (handles i))) 0 m.filters)
      (owned (option_to_list m.leaf))))))))

  check_checked : AllByRecursion Checked (check_tests m)
  check_checked =
      All-append Checked _ _ (counted Checked (type_tests m) (type_checked m) 0 m.types)
      (All-append Checked _ _ (counted Checked (const_expression_tests m) (const_checked m) 0 m.expressions) later_checked)

-- of the check or of sealing
abbrev Known : Test → Type 0
Known t = (of_check t.fault.rule t.fault.kind || of_seal t.fault.rule t.fault.kind) ≡ true

-- the tables whose handles only sealing finds not inside
abbrev sealed_table : Table → Bool
sealed_table t = of_seal rule.SealedInside (fault_kind t)

inside_known : (s : Sizes) (place : ℕ) (hs : List Handle) → AllByRecursion (Allowed sealed_table) hs → AllByRecursion Known (all_inside rule.SealedInside s place hs)
inside_known s place [] h = tt
inside_known s place (x ∷ hs) h = (h.0, inside_known s place hs h.1)

earlier_known : (t : Table) → of_seal rule.SealedEarlier (fault_kind t) ≡ true → (n place : ℕ) (xs : List ℕ) → AllByRecursion Known (map (earlier rule.SealedEarlier t n place) xs)
earlier_known t e n place xs = mapped Known (earlier rule.SealedEarlier t n place) (λ x. e) xs

types_only : (hs : List Handle) → AllByRecursion (Allowed sealed_table) (filter (is_of table.Types) hs)
types_only [] = tt
types_only (handle.Type h ∷ hs) = (refl, types_only hs)
types_only (h ∷ hs) = types_only hs

ty_known : (s : Sizes) (i : Item) → AllByRecursion Known (seals.ty_tests s i)
ty_known s i = inside_known s i.place (seals.ty_of i) (types_only (handles_of i.bytes))

module _ (s : Sizes) where
  global_known : (x : ℕ) (i : Item) → AllByRecursion Known (seals.global_tests s x i)
  global_known x i = (refl, All-append Known _ (seals.ty_tests s i) (earlier_known table.Expressions refl x i.place (numbers table.Expressions (handles i))) (ty_known s i))

  inner_known : (count : ℕ) (i : Item) → AllByRecursion Known (seals.inner_tests s count i)
  inner_known count i = All-append Known (seals.ty_tests s i) (seals.argument_tests count i) (ty_known s i) (either Known (is seals.FunctionArgument i) _ [] (refl, tt) tt)

  -- the fields of a record of a kind: special types, entry points, ImageAtomic
  special_known : (i : Item) → is 6 i ≡ true → AllByRecursion Known (seals.special_tests s i)
  special_known i k =
      inside_known s i.place (fields (3 ∷ 4 ∷ []) i)
      (All-append (Allowed sealed_table) _ _ (field_of_allowed sealed_table 6 kind.SpecialTypes refl i.bytes 3 k refl)
      (All-append (Allowed sealed_table) _ [] (field_of_allowed sealed_table 6 kind.SpecialTypes refl i.bytes 4 k refl) tt))

  predeclared_known : (i : Item) → is 7 i ≡ true → AllByRecursion Known (own_inside rule.SealedInside s i)
  predeclared_known i k = inside_known s i.place (handles_of i.bytes) (record_allowed sealed_table 7 kind.Predeclared refl i.bytes k refl)

  payload_known : (b : Body) → is 12 b.opener ≡ true → AllByRecursion Known (seals.payload_tests s b)
  payload_known b k =
      inside_known s b.opener.place (fields (10 ∷ []) b.opener)
      (All-append (Allowed sealed_table) _ [] (field_of_allowed sealed_table 12 kind.EntryPoint refl b.opener.bytes 10 k refl) tt)

  atomic_known : (place : ℕ) (i : Item) (b : Bool) → is ImageAtomic i ≡ b → AllByRecursion Known (cond b (all_inside rule.SealedInside s place (fields (3 ∷ []) i)) [])
  atomic_known place i true k =
      inside_known s place (fields (3 ∷ []) i)
      (All-append (Allowed sealed_table) _ [] (field_of_allowed sealed_table ImageAtomic (kind.Statement statement.ImageAtomic) refl i.bytes 3 k refl) tt)
  atomic_known place i false k = tt

-- the kinds of the items of some lists
pub record Kinded (m : Module) : Type 0 where
  pub special : AllByRecursion (λ i. is 6 i ≡ true) (option_to_list m.special)
  pub predeclared : AllByRecursion (λ i. is 7 i ≡ true) m.predeclared
  pub entries : AllByRecursion (λ b. is 12 b.opener ≡ true) m.entries

-- the tests of items that all have a property
each_of : {X : Type 0} (Q : X → Type 0) (f : X → List Test) → ((x : X) → Q x → AllByRecursion Known (f x)) → (xs : List X) → AllByRecursion Q xs → AllByRecursion Known (flat_map f xs)
each_of Q f h [] q = tt
each_of Q f h (x ∷ xs) q = All-append Known (f x) (flat_map f xs) (h x q.0) (each_of Q f h xs q.1)

module _ (m : Module) (k : Kinded m) where
  compared_known : (b : Body) → AllByRecursion Known (seals.compared_tests (sizes m) b)
  compared_known b = each Known (seals.compare_tests (sizes_in (sizes m) b)) (λ i. atomic_known (sizes_in (sizes m) b) i.place i (is ImageAtomic i) refl) b.statements

  body_known : (b : Body) → AllByRecursion Known (seals.body_tests (sizes m) b)
  body_known b = each Known (seals.inner_tests (sizes m) _) (inner_known (sizes m) _) b.expressions

  pending_known : (t : ℕ) (i : Item) → AllByRecursion Known (seals.pending_tests m t i)
  pending_known t i =
      each Known (seals.up_to_tests m t i.place) (λ e.
      each Known (seals.waited_tests m t i.place) (λ x. earlier_known table.Types refl t i.place (seals.types_named m x)) (take (suc e) m.expressions)) (inits m i)

  seal_known : AllByRecursion Known (seal_tests m)
  seal_known =
      All-append Known _ _ (counted Known (seals.global_tests (sizes m)) (global_known (sizes m)) 0 m.expressions)
      (All-append Known _ _ (counted Known (seals.pending_tests m) pending_known 0 m.types)
      (All-append Known _ _ (each Known (seals.body_tests (sizes m)) body_known m.functions)
      (All-append Known _ _ (each Known (seals.body_tests (sizes m)) body_known m.entries)
      (All-append Known _ _ (counted Known seals.call_tests (λ f b. earlier_known table.Functions refl f b.opener.place (seals.calls b)) 0 m.functions)
      (All-append Known _ _ (each_of (λ i. is 6 i ≡ true) (seals.special_tests (sizes m)) (special_known (sizes m)) (option_to_list m.special) k.special)
      (All-append Known _ _ (each_of (λ i. is 7 i ≡ true) (own_inside rule.SealedInside (sizes m)) (predeclared_known (sizes m)) m.predeclared k.predeclared)
      (All-append Known _ _ (each_of (λ b. is 12 b.opener ≡ true) (seals.payload_tests (sizes m)) (payload_known (sizes m)) m.entries k.entries)
      (All-append Known _ _ (each Known (seals.compared_tests (sizes m)) compared_known m.functions)
      (each Known (seals.compared_tests (sizes m)) compared_known m.entries)))))))))

  all_known : AllByRecursion Known (all_tests m)
  all_known =
      All-append Known (check_tests m) (seal_tests m)
      (All-weaker Checked Known (λ t h. or_left (of_check t.fault.rule t.fault.kind) (of_seal t.fault.rule t.fault.kind) h) (check_tests m) (check_checked m))
      seal_known

  pub no_other_faults : NoOtherFaults m
  no_other_faults = record {
    checks = λ f e. let g = first_is Checked (check_tests m) (check_checked m) f e in subst (λ x. of_check x.rule x.kind ≡ true) g.2 g.1;
    seals = λ f e. let g = first_is Known (all_tests m) all_known f e in subst (λ x. (of_check x.rule x.kind || of_seal x.rule x.kind) ≡ true) g.2 g.1;
  }
