-- The handles of the records that open bodies, of special types and of filters are inside.
use Rattle.std.proofs.Common.{◌≡◌, ℕ, ◌<◌, Bool, true, false, List, [], ◌∷◌, ◌++◌, filter, drop, Ok, sym, refl, subst, arith}
use Rattle.std.proofs.ByRecursion.{All-append}
use Rattle.ir.specs.declared.handle.Table.{Table}
use Rattle.ir.specs.declared.handle.Table.TheVariants as table
use Rattle.ir.specs.declared.handle.Handle.{Handle}
use Rattle.ir.specs.declared.kinds.Kind.TheVariants as kind
use Rattle.ir.specs.Layout.{layout}
use Rattle.records.specs.Handles.{handles_of, field_of, field_in}
use Rattle.records.specs.Record.{judged}
use Rattle.rules.specs.declared.faults.Rule.TheVariants as rule
use Rattle.rules.specs.declared.sizes.Sizes.{Sizes}
use Rattle.rules.specs.Module.{Record, Item}
use Rattle.rules.specs.Kinds.{starts_with}
use Rattle.rules.specs.Items.{handles, fields, is_of, numbers}
use Rattle.rules.specs.Fault.{all_inside}
use Rattle.rules.specs.Check.{body_leaf, entry_handles, special_tests, filter_tests}
use Rattle.rules.specs.Verdict.{AllHold}
use Rattle.rules.proofs.Passing.{all_left, all_right, below_from_hold}
use Rattle.sealing.specs.Seal as seals
use Rattle.sealing.specs.Seal.{seal, seal_of, all_tests, seal_tests, in_bodies_only, ty_tests, argument_tests, compare_tests}
use Rattle.sealing.proofs.FieldTables.{field_of_allowed}
use Rattle.promises.specs.Inside.{IsInside, ItemInside}
use Rattle.promises.proofs.Handles.{inside_from_hold, OfTable, by_tables, from_numbers, from_filter, handles_are, field_are}
use Rattle.promises.proofs.Made.{starts_is, allowed_of, Made}
use Rattle.promises.proofs.Tested.{All, only, of_only, below_size, own_numbers, bare}

-- the openers

pub function_opener : (s : Sizes) (o : Item) → Made kind.Function o → AllHold (all_inside rule.Inside s o.place (body_leaf o)) → ItemInside s o
function_opener s o w h =
    let hs = handles_of o.bytes in
    bare s o w.taken
    (by_tables (only table.Filters) (IsInside s) hs (allowed_of (only table.Filters) o.bytes kind.Function w.kind_is refl)
    (λ u e. of_only table.Filters u (IsInside s) hs e (from_filter table.Filters (IsInside s) hs (inside_from_hold rule.Inside s o.place (body_leaf o) h))))

-- the tables of a mesh
abbrev mesh_tables : Table → Bool
mesh_tables table.Types = true
mesh_tables table.GlobalVariables = true
mesh_tables table.Expressions = true
mesh_tables _ = false

pub entry_opener : (s : Sizes) (o : Item) → Made kind.EntryPoint o → AllHold (all_inside rule.Inside s o.place (body_leaf o)) → AllHold (all_inside rule.Inside s o.place (entry_handles o)) → AllHold (all_inside rule.SealedInside s o.place (fields (10 ∷ []) o)) → ItemInside s o
entry_opener s o w leaf h payload =
    let P = IsInside s in
    let r = o.bytes in
    let starts : starts_with 12 r ≡ true = starts_is r kind.EntryPoint w.kind_is in
    let mesh = fields (8 ∷ []) o in
    let all = inside_from_hold rule.Inside s o.place (entry_handles o) h in
    let plain = all_left P (fields (4 ∷ 5 ∷ 6 ∷ 9 ∷ []) o) _ all in
    let meshes = all_right P (fields (4 ∷ 5 ∷ 6 ∷ 9 ∷ []) o) (filter (is_of table.GlobalVariables) mesh ++ (filter (is_of table.Types) mesh ++ filter (is_of table.Expressions) mesh)) all in
    let globals = from_filter table.GlobalVariables P mesh (all_left P (filter (is_of table.GlobalVariables) mesh) _ meshes) in
    let others = all_right P (filter (is_of table.GlobalVariables) mesh) (filter (is_of table.Types) mesh ++ filter (is_of table.Expressions) mesh) meshes in
    let types = from_filter table.Types P mesh (all_left P (filter (is_of table.Types) mesh) (filter (is_of table.Expressions) mesh) others) in
    let expressions = from_filter table.Expressions P mesh (all_right P (filter (is_of table.Types) mesh) (filter (is_of table.Expressions) mesh) others) in
    let f4 = all_left P (field_of r 4) (fields (5 ∷ 6 ∷ 9 ∷ []) o) plain in
    let r4 = all_right P (field_of r 4) (fields (5 ∷ 6 ∷ 9 ∷ []) o) plain in
    let f5 = all_left P (field_of r 5) (fields (6 ∷ 9 ∷ []) o) r4 in
    let r5 = all_right P (field_of r 5) (fields (6 ∷ 9 ∷ []) o) r4 in
    let f6 = all_left P (field_of r 6) (fields (9 ∷ []) o) r5 in
    let r6 = all_right P (field_of r 6) (fields (9 ∷ []) o) r5 in
    let f9 = all_left P (field_of r 9) [] r6 in
    let f8 =
    by_tables mesh_tables P (field_of r 8) (field_of_allowed mesh_tables 12 kind.EntryPoint refl r 8 starts refl)
    (λ u e. all_left (λ x. is_of u x ≡ true → P x) (field_of r 8) [] (of_mesh P mesh u e types globals expressions)) in
    let f10 = inside_from_hold rule.SealedInside s o.place (fields (10 ∷ []) o) payload in
    let leaves = from_filter table.Filters P (handles_of r) (inside_from_hold rule.Inside s o.place (body_leaf o) leaf) in
    let f7 =
    by_tables (only table.Filters) P (field_of r 7) (field_of_allowed (only table.Filters) 12 kind.EntryPoint refl r 7 starts refl)
    (λ u e. of_only table.Filters u P (field_of r 7) e (seventh P r w.kind_is leaves)) in
    let at = field_are r kind.EntryPoint w.kind_is in
    bare s o w.taken
    (subst (All P) (sym (handles_are r kind.EntryPoint w.kind_is))
    (All-append P _ _ (subst (All P) (at 4) f4)
    (All-append P _ _ (subst (All P) (at 5) f5)
    (All-append P _ _ (subst (All P) (at 6) f6)
    (All-append P _ _ (subst (All P) (at 7) f7)
    (All-append P _ _ (subst (All P) (at 8) f8)
    (All-append P _ _ (subst (All P) (at 9) f9)
    (subst (λ l. All P (l ++ [])) (at 10) f10))))))))
  where
    of_mesh : (P : Handle → Type 0) (hs : List Handle) (u : Table) → mesh_tables u ≡ true → OfTable table.Types P hs → OfTable table.GlobalVariables P hs → OfTable table.Expressions P hs → OfTable u P hs
    of_mesh P hs table.Types e a b c = a
    of_mesh P hs table.GlobalVariables e a b c = b
    of_mesh P hs table.Expressions e a b c = c
    of_mesh P hs u e a b c = absurd cc

    -- the seventh field is among the handles
    seventh : (P : Handle → Type 0) (r : Record) → judged r ≡ Ok kind.EntryPoint → OfTable table.Filters P (handles_of r) → OfTable table.Filters P (field_of r 7)
    seventh P r e a =
        let Q : Handle → Type 0 = λ h. is_of table.Filters h ≡ true → P h in
        let k = layout kind.EntryPoint in
        let bytes = drop 1 r in
        let all = subst (All Q) (handles_are r kind.EntryPoint e) a in
        let b = all_right Q (field_in k 4 bytes) _ all in
        let c = all_right Q (field_in k 5 bytes) _ b in
        let d = all_right Q (field_in k 6 bytes) _ c in
        subst (All Q) (sym (field_are r kind.EntryPoint e 7)) (all_left Q (field_in k 7 bytes) _ d)

pub special_inside : (s : Sizes) (i : Item) → Made kind.SpecialTypes i → AllHold (special_tests s i) → AllHold (seals.special_tests s i) → ItemInside s i
special_inside s i w h c =
    let P = IsInside s in
    let r = i.bytes in
    let f = inside_from_hold rule.Inside s i.place (fields (0 ∷ 1 ∷ 2 ∷ []) i) h in
    let g = inside_from_hold rule.SealedInside s i.place (fields (3 ∷ 4 ∷ []) i) c in
    let f0 = all_left P (field_of r 0) (fields (1 ∷ 2 ∷ []) i) f in
    let r0 = all_right P (field_of r 0) (fields (1 ∷ 2 ∷ []) i) f in
    let f1 = all_left P (field_of r 1) (fields (2 ∷ []) i) r0 in
    let r1 = all_right P (field_of r 1) (fields (2 ∷ []) i) r0 in
    let f2 = all_left P (field_of r 2) [] r1 in
    let f3 = all_left P (field_of r 3) (fields (4 ∷ []) i) g in
    let f4 = all_right P (field_of r 3) (fields (4 ∷ []) i) g in
    let at = field_are r kind.SpecialTypes w.kind_is in
    bare s i w.taken
    (subst (All P) (sym (handles_are r kind.SpecialTypes w.kind_is))
    (All-append P _ _ (subst (All P) (at 0) f0)
    (All-append P _ _ (subst (All P) (at 1) f1)
    (All-append P _ _ (subst (All P) (at 2) f2)
    (All-append P _ _ (subst (All P) (at 3) f3)
    (subst (λ l. All P (l ++ [])) (at 4) f4))))))

pub filter_inside : (s : Sizes) (n : ℕ) (i : Item) → n < s.filters → Made kind.Filter i → AllHold (filter_tests n i) → ItemInside s i
filter_inside s n i l w h =
    let hs = handles_of i.bytes in
    let before = below_size n s.filters (numbers table.Filters (handles i)) (omega arith) (below_from_hold rule.Earlier table.Filters n i.place (numbers table.Filters (handles i)) h) in
    bare s i w.taken
    (by_tables (only table.Filters) (IsInside s) hs (allowed_of (only table.Filters) i.bytes kind.Filter w.kind_is refl)
    (λ u e. of_only table.Filters u (IsInside s) hs e (from_numbers s table.Filters hs (own_numbers (λ x. x < s.filters) table.Filters i before))))
