-- The handles of a record by the layout of its kind, and what holds of those of each table.
use Rattle.std.proofs.Common.{◌≡◌, ℕ, zero, suc, ◌+◌, ◌<◌, ◌≤◌, max, Bool, true, false, cond, List, [], ◌∷◌, ◌++◌, filter, length, take, drop, slice_get, Some, None, Option, Ok, Err, Result, sym, refl, ap, subst, arith, ltb-true, length-append, eqb}
use Rattle.std.specs.Prelude.{slice_index}
use Rattle.std.specs.List.{AllByRecursion}
use Rattle.std.proofs.ByRecursion.{All-append}
use Rattle.ir.specs.declared.handle.Table.{Table}
use Rattle.ir.specs.declared.handle.Table.TheVariants as table
use Rattle.ir.specs.declared.handle.Handle.{Handle}
use Rattle.ir.specs.declared.handle.Handle.TheVariants as handle
use Rattle.ir.specs.declared.fields.Word.{Word}
use Rattle.ir.specs.declared.fields.Word.TheVariants as word
use Rattle.ir.specs.declared.fields.Field.{Field}
use Rattle.ir.specs.declared.fields.Field.TheVariants.{Word as one, Case}
use Rattle.ir.specs.declared.kinds.Kind.{Kind}
use Rattle.ir.specs.Handle.{named, table_of, index_of}
use Rattle.ir.specs.Field.{cases_of, width_of, handle_in, absent}
use Rattle.ir.specs.Layout.{layout, size_of}
use Rattle.ir.specs.Number.{kind_of, second_first}
use Rattle.records.specs.declared.judge.Flaw.{Flaw}
use Rattle.records.specs.declared.judge.Flaw.TheVariants.{WrongLength, BadField}
use Rattle.records.specs.Record.{number, body_of, parts_of, fields_fit, judged_parts, judged}
use Rattle.records.specs.Handles.{joining, words_handles, case_handles, field_handles, fields_handles, fields_tested, parts_handles, parts_tested, parts_field, handles_of, tested_of, field_of, field_in}
use Rattle.rules.specs.declared.faults.Rule.{Rule}
use Rattle.rules.specs.declared.sizes.Sizes.{Sizes}
use Rattle.rules.specs.Module.{Record}
use Rattle.rules.specs.Sizes.{size_in}
use Rattle.rules.specs.Items.{code, is_of, numbers}
use Rattle.rules.specs.Fault.{all_inside}
use Rattle.rules.specs.Verdict.{AllHold}
use Rattle.rules.proofs.Passing.{all_left, all_right}
use Rattle.tables.proofs.Numbers.{numbers_append}
use Rattle.sealing.proofs.FieldTables.{Allowed}
use Rattle.promises.specs.Inside.{IsInside}

-- handles whose tests pass are inside
pub inside_from_hold : (broken : Rule) (s : Sizes) (place : ℕ) (hs : List Handle) → AllHold (all_inside broken s place hs) → AllByRecursion (IsInside s) hs
inside_from_hold broken s place [] h = tt
inside_from_hold broken s place (x ∷ hs) h = (ltb-true (index_of x) (size_in s (table_of x)) h.0, inside_from_hold broken s place hs h.1)

-- of the handles of one table
abbrev pub OfTable : Table → (Handle → Type 0) → List Handle → Type 0
OfTable t P hs = AllByRecursion (λ h. is_of t h ≡ true → P h) hs

itself : (h : Handle) → is_of (table_of h) h ≡ true
itself (handle.Type h) = refl
itself h = refl

pub same_code : (t u : Table) → eqb (code t) (code u) ≡ true → t ≡ u
same_code table.Types table.Types e = refl
same_code table.Constants table.Constants e = refl
same_code table.Overrides table.Overrides e = refl
same_code table.GlobalVariables table.GlobalVariables e = refl
same_code table.LocalVariables table.LocalVariables e = refl
same_code table.Expressions table.Expressions e = refl
same_code table.Functions table.Functions e = refl
same_code table.Filters table.Filters e = refl
same_code table.EntryPoints table.EntryPoints e = refl
same_code t u e = absurd cc

-- table by table, where only some tables have any
pub by_tables : (allowed : Table → Bool) (P : Handle → Type 0) (hs : List Handle) → AllByRecursion (Allowed allowed) hs → ((t : Table) → allowed t ≡ true → OfTable t P hs) → AllByRecursion P hs
by_tables allowed P [] a f = tt
by_tables allowed P (h ∷ hs) a f = ((f (table_of h) a.0).0 (itself h), by_tables allowed P hs a.1 (λ t e. (f t e).1))

pub of_all : (t : Table) (P : Handle → Type 0) (hs : List Handle) → AllByRecursion P hs → OfTable t P hs
of_all t P [] a = tt
of_all t P (h ∷ hs) a = (λ e. a.0, of_all t P hs a.1)

-- what holds of a list that may have one more before it
parted : {X : Type 0} (P : X → Type 0) (b : Bool) (x : X) (xs : List X) → AllByRecursion P (cond b (x ∷ xs) xs) → (b ≡ true → P x) × AllByRecursion P xs
parted P true x xs a = (λ e. a.0, a.1)
parted P false x xs a = (λ e. absurd cc, a)

module _ (s : Sizes) (t : Table) where
  pub from_numbers : (hs : List Handle) → AllByRecursion (λ n. n < size_in s t) (numbers t hs) → OfTable t (IsInside s) hs
  from_numbers [] a = tt
  from_numbers (h ∷ hs) a = let r = parted (λ n. n < size_in s t) (is_of t h) (index_of h) (numbers t hs) a in (λ i. subst (λ u. index_of h < size_in s u) (sym (same_code (table_of h) t i)) (r.0 i), from_numbers hs r.1)

module _ (t : Table) (P : Handle → Type 0) where
  pub from_filter : (hs : List Handle) → AllByRecursion P (filter (is_of t) hs) → OfTable t P hs
  from_filter [] a = tt
  from_filter (h ∷ hs) a = let r = parted P (is_of t h) h (filter (is_of t) hs) a in (r.0, from_filter hs r.1)

-- the parts of a record that is accepted
checked : (c : Bool) (j k : Kind) → cond c (Ok j) (Err BadField) ≡ Ok k → j ≡ k
checked true j k e = cc
checked false j k e = absurd cc

whole : (c : Bool) (j k : Kind) (body : List ℕ) → judged_parts (cond c (Ok (j, body)) (Err WrongLength)) ≡ Ok k → cond {A = Result (Kind × List ℕ) Flaw} c (Ok (j, body)) (Err WrongLength) ≡ Ok (k, body)
whole true j k body e = ap (λ l. Ok (l, body)) (checked (fields_fit (layout j) body) j k e)
whole false j k body e = absurd cc

there : (f : Option Kind) (body : List ℕ) (k : Kind) → judged_parts (body_of f body) ≡ Ok k → body_of f body ≡ Ok (k, body)
there None body k e = absurd cc
there (Some j) body k e = whole (eqb (length body) (size_of (layout j))) j k body e

parts_are : (r : Record) (k : Kind) → judged r ≡ Ok k → parts_of r ≡ Ok (k, drop 1 r)
parts_are [] k e = absurd cc
parts_are (byte ∷ body) k e = there (kind_of byte) body k e

module _ (r : Record) (k : Kind) (e : judged r ≡ Ok k) where
  pub handles_are : handles_of r ≡ fields_handles (layout k) (drop 1 r)
  handles_are = ap parts_handles (parts_are r k e)

  pub field_are : (n : ℕ) → field_of r n ≡ field_in (layout k) n (drop 1 r)
  field_are n = ap (λ p. parts_field p n) (parts_are r k e)

  pub tested_are : tested_of r ≡ fields_tested (second_first k) (layout k) (drop 1 r)
  tested_are = ap parts_tested (parts_are r k e)

-- the order of the tests leaves none out
pub in_order : (P : Handle → Type 0) (b : Bool) (fs : List Field) (bytes : List ℕ) → AllByRecursion P (fields_tested b fs bytes) → AllByRecursion P (fields_handles fs bytes)
in_order P false fs bytes a = a
in_order P true [] bytes a = a
in_order P true (f ∷ []) bytes a = a
in_order P true (f ∷ g ∷ fs) bytes a =
    let first = field_handles f bytes in
    let second = field_handles g (drop (width_of f) bytes) in
    let rest = fields_handles fs (drop (width_of g) (drop (width_of f) bytes)) in
    let later = all_right P second (first ++ rest) a in
    All-append P first (second ++ rest) (all_left P first rest later) (All-append P second rest (all_left P second (first ++ rest) a) (all_right P first rest later))

-- how many handles of a table fields can hold
module _ (t : Table) where
  abbrev of_it : Table → ℕ
  of_it u = cond (eqb (code u) (code t)) 1 0

  abbrev word_most : Word → ℕ
  word_most (word.Handle u) = of_it u
  word_most (word.Optional u) = of_it u
  word_most _ = 0

  abbrev words_most : List Word → ℕ
  words_most [] = 0
  words_most (w ∷ ws) = word_most w + words_most ws

  abbrev rows_most : List (List Word) → ℕ
  rows_most [] = 0
  rows_most (ws ∷ rows) = max (words_most ws) (rows_most rows)

  abbrev field_most : Field → ℕ
  field_most (one w) = word_most w
  field_most (Case c) = rows_most (cases_of c)

  abbrev pub fields_most : List Field → ℕ
  fields_most [] = 0
  fields_most (f ∷ fs) = field_most f + fields_most fs

  one_number : (b : Bool) (n : ℕ) (ns : List ℕ) → length (cond b (n ∷ ns) ns) ≤ cond b 1 0 + length ns
  one_number true n ns = omega arith
  one_number false n ns = omega arith

  named_few : (u : Table) (n : ℕ) (hs : List Handle) → length (numbers t (named u n ∷ hs)) ≤ of_it u + length (numbers t hs)
  named_few table.Types n hs = one_number (eqb (code table.Types) (code t)) n (numbers t hs)
  named_few table.Constants n hs = one_number (eqb (code table.Constants) (code t)) n (numbers t hs)
  named_few table.Overrides n hs = one_number (eqb (code table.Overrides) (code t)) n (numbers t hs)
  named_few table.GlobalVariables n hs = one_number (eqb (code table.GlobalVariables) (code t)) n (numbers t hs)
  named_few table.LocalVariables n hs = one_number (eqb (code table.LocalVariables) (code t)) n (numbers t hs)
  named_few table.Expressions n hs = one_number (eqb (code table.Expressions) (code t)) n (numbers t hs)
  named_few table.Functions n hs = one_number (eqb (code table.Functions) (code t)) n (numbers t hs)
  named_few table.Filters n hs = one_number (eqb (code table.Filters) (code t)) n (numbers t hs)
  named_few table.EntryPoints n hs = one_number (eqb (code table.EntryPoints) (code t)) n (numbers t hs)

  present_few : (b : Bool) (u : Table) (n : ℕ) (hs : List Handle) → length (numbers t (joining (cond b None (Some (named u n))) hs)) ≤ of_it u + length (numbers t hs)
  present_few true u n hs = omega arith
  present_few false u n hs = named_few u n hs

  word_few : (w : Word) (n : ℕ) (hs : List Handle) → length (numbers t (joining (handle_in w n) hs)) ≤ word_most w + length (numbers t hs)
  word_few (word.Handle u) n hs = present_few (eqb n absent) u n hs
  word_few (word.Optional u) n hs = present_few (eqb n absent) u n hs
  word_few word.Mark n hs = omega arith
  word_few word.Number n hs = omega arith
  word_few word.NonZero n hs = omega arith
  word_few word.Unused n hs = omega arith

  words_few : (ws : List Word) (bytes : List ℕ) → length (numbers t (words_handles ws bytes)) ≤ words_most ws
  words_few [] bytes = omega arith
  words_few (w ∷ ws) bytes =
      let a = word_few w (number bytes) (words_handles ws (drop 4 bytes)) in
      let b = words_few ws (drop 4 bytes) in
      omega arith

  case_few : (rows : List (List Word)) (k : ℕ) (bytes : List ℕ) → length (numbers t (case_handles (slice_get rows k) bytes)) ≤ rows_most rows
  case_few [] k bytes = omega arith
  case_few (ws ∷ rows) zero bytes = let a = words_few ws bytes in omega arith
  case_few (ws ∷ rows) (suc k) bytes = let a = case_few rows k bytes in omega arith

  field_few : (f : Field) (bytes : List ℕ) → length (numbers t (field_handles f bytes)) ≤ field_most f
  field_few (one w) bytes = let a = word_few w (number bytes) [] in omega arith
  field_few (Case c) bytes = case_few (cases_of c) (slice_index bytes 0) (drop 1 bytes)

  pub fields_few : (fs : List Field) (bytes : List ℕ) → length (numbers t (fields_handles fs bytes)) ≤ fields_most fs
  fields_few [] bytes = omega arith
  fields_few (f ∷ fs) bytes =
      let a = field_few f bytes in
      let b = fields_few fs (drop (width_of f) bytes) in
      let c = numbers_append t (field_handles f bytes) (fields_handles fs (drop (width_of f) bytes)) in
      let d = ap length c in
      let l = length-append (numbers t (field_handles f bytes)) (numbers t (fields_handles fs (drop (width_of f) bytes))) in
      omega arith

first_of_few : (ns : List ℕ) → length ns ≤ 1 → take 1 ns ≡ ns
first_of_few [] l = refl
first_of_few (n ∷ []) l = refl
first_of_few (n ∷ m ∷ ns) l = absurd (omega arith)

-- the one handle of a table that a record of a kind can have
pub own_is : (t : Table) (r : Record) (k : Kind) → judged r ≡ Ok k → fields_most t (layout k) ≤ 1 → take 1 (numbers t (handles_of r)) ≡ numbers t (handles_of r)
own_is t r k e l =
    let f = fields_few t (layout k) (drop 1 r) in
    let g = ap (λ hs. length (numbers t hs)) (handles_are r k e) in
    first_of_few (numbers t (handles_of r)) (omega arith)

pub none_are : (t : Table) (r : Record) (k : Kind) → judged r ≡ Ok k → fields_most t (layout k) ≡ 0 → numbers t (handles_of r) ≡ []
none_are t r k e l =
    let f = fields_few t (layout k) (drop 1 r) in
    let g = ap (λ hs. length (numbers t hs)) (handles_are r k e) in
    empty (numbers t (handles_of r)) (omega arith)
  where
    empty : (ns : List ℕ) → length ns ≤ 0 → ns ≡ []
    empty [] b = refl
    empty (n ∷ ns) b = absurd (omega arith)
