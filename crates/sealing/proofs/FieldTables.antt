-- Of which tables the handles of records of some kinds are.
use Rattle.std.proofs.Common.{◌≡◌, ℕ, zero, suc, Bool, true, false, cond, ◌&&◌, ◌==◌, List, [], ◌∷◌, length, drop, Some, None, refl, subst, sym, ap, ◌∙◌}
use Rattle.std.specs.Prelude.{slice_index, Ok, Err}
use Rattle.std.specs.List.{AllByRecursion, slice_get}
use Rattle.std.proofs.ByRecursion.{All-append}
use Rattle.std.proofs.lemmas.Bool.{and_parts, eqb-true}
use Rattle.ir.specs.declared.handle.Table.{Table}
use Rattle.ir.specs.declared.handle.Table.TheVariants as table
use Rattle.ir.specs.declared.handle.Handle.{Handle}
use Rattle.ir.specs.declared.fields.Word.{Word}
use Rattle.ir.specs.declared.fields.Word.TheVariants as word
use Rattle.ir.specs.declared.fields.Field.{Field}
use Rattle.ir.specs.declared.fields.Field.TheVariants.{Word as one, Case}
use Rattle.ir.specs.declared.kinds.Kind.{Kind}
use Rattle.ir.specs.Handle.{named, table_of}
use Rattle.ir.specs.Field.{cases_of, width_of, handle_in}
use Rattle.ir.specs.Layout.{layout, size_of}
use Rattle.ir.specs.Number.{kind_of}
use Rattle.records.specs.declared.judge.Flaw.TheVariants.{WrongLength}
use Rattle.records.specs.Record.{number, body_of}
use Rattle.records.specs.Handles.{joining, words_handles, case_handles, field_handles, fields_handles, parts_handles, handles_of, field_in, parts_field, field_of}
use Rattle.rules.specs.Module.{Record}
use Rattle.rules.specs.Kinds.{starts_with}

pub named_table : (t : Table) (n : ℕ) → table_of (named t n) ≡ t
named_table table.Types n = refl
named_table t n = refl

-- whether the handles in a word, in rows of words, and in a field are of tables that are allowed
module _ (allowed : Table → Bool) where
  abbrev pub Allowed : Handle → Type 0
  Allowed h = allowed (table_of h) ≡ true

  abbrev word_allowed : Word → Bool
  word_allowed (word.Handle t) = allowed t
  word_allowed (word.Optional t) = allowed t
  word_allowed _ = true

  abbrev words_allowed : List Word → Bool
  words_allowed [] = true
  words_allowed (w ∷ ws) = word_allowed w && words_allowed ws

  abbrev rows_allowed : List (List Word) → Bool
  rows_allowed [] = true
  rows_allowed (ws ∷ rows) = words_allowed ws && rows_allowed rows

  abbrev pub field_allowed : Field → Bool
  field_allowed (one w) = word_allowed w
  field_allowed (Case c) = rows_allowed (cases_of c)

  abbrev pub fields_allowed : List Field → Bool
  fields_allowed [] = true
  fields_allowed (f ∷ fs) = field_allowed f && fields_allowed fs

  abbrev pub one_allowed : List Field → ℕ → Bool
  one_allowed [] k = true
  one_allowed (f ∷ fs) zero = field_allowed f
  one_allowed (f ∷ fs) (suc k) = one_allowed fs k

  present : (b : Bool) (h : Handle) (hs : List Handle) → Allowed h → AllByRecursion Allowed hs → AllByRecursion Allowed (joining (cond b None (Some h)) hs)
  present true h hs a all = all
  present false h hs a all = (a, all)

  word_is : (w : Word) (n : ℕ) (hs : List Handle) → word_allowed w ≡ true → AllByRecursion Allowed hs → AllByRecursion Allowed (joining (handle_in w n) hs)
  word_is (word.Handle t) n hs e all = present _ (named t n) hs (ap allowed (named_table t n) ∙ e) all
  word_is (word.Optional t) n hs e all = present _ (named t n) hs (ap allowed (named_table t n) ∙ e) all
  word_is word.Mark n hs e all = all
  word_is word.Number n hs e all = all
  word_is word.NonZero n hs e all = all
  word_is word.Unused n hs e all = all

  words_are : (ws : List Word) (bytes : List ℕ) → words_allowed ws ≡ true → AllByRecursion Allowed (words_handles ws bytes)
  words_are [] bytes e = tt
  words_are (w ∷ ws) bytes e =
      let p = and_parts (word_allowed w) (words_allowed ws) e in
      word_is w (number bytes) (words_handles ws (drop 4 bytes)) p.0 (words_are ws (drop 4 bytes) p.1)

  case_is : (rows : List (List Word)) (k : ℕ) (bytes : List ℕ) → rows_allowed rows ≡ true → AllByRecursion Allowed (case_handles (slice_get rows k) bytes)
  case_is [] k bytes e = tt
  case_is (ws ∷ rows) zero bytes e = words_are ws bytes (and_parts (words_allowed ws) (rows_allowed rows) e).0
  case_is (ws ∷ rows) (suc k) bytes e = case_is rows k bytes (and_parts (words_allowed ws) (rows_allowed rows) e).1

  field_is : (f : Field) (bytes : List ℕ) → field_allowed f ≡ true → AllByRecursion Allowed (field_handles f bytes)
  field_is (one w) bytes e = word_is w (number bytes) [] e tt
  field_is (Case c) bytes e = case_is (cases_of c) (slice_index bytes 0) (drop 1 bytes) e

  fields_are : (fs : List Field) (bytes : List ℕ) → fields_allowed fs ≡ true → AllByRecursion Allowed (fields_handles fs bytes)
  fields_are [] bytes e = tt
  fields_are (f ∷ fs) bytes e =
      let p = and_parts (field_allowed f) (fields_allowed fs) e in
      All-append Allowed (field_handles f bytes) (fields_handles fs (drop (width_of f) bytes)) (field_is f bytes p.0) (fields_are fs (drop (width_of f) bytes) p.1)

  one_is : (fs : List Field) (k : ℕ) (bytes : List ℕ) → one_allowed fs k ≡ true → AllByRecursion Allowed (field_in fs k bytes)
  one_is [] k bytes e = tt
  one_is (f ∷ fs) zero bytes e = field_is f bytes e
  one_is (f ∷ fs) (suc k) bytes e = one_is fs k (drop (width_of f) bytes) e

  -- of a body of a kind, if it is as long as the kind fixes
  all_of : (b : Bool) (k : Kind) (body : List ℕ) → fields_allowed (layout k) ≡ true → AllByRecursion Allowed (parts_handles (cond b (Ok (k, body)) (Err WrongLength)))
  all_of true k body e = fields_are (layout k) body e
  all_of false k body e = tt

  one_of : (b : Bool) (k : Kind) (body : List ℕ) (n : ℕ) → one_allowed (layout k) n ≡ true → AllByRecursion Allowed (parts_field (cond b (Ok (k, body)) (Err WrongLength)) n)
  one_of true k body n e = one_is (layout k) n body e
  one_of false k body n e = tt

  -- the handles of a record whose kind has this number, and those in one field
  module _ (byte : ℕ) (k : Kind) (is : kind_of byte ≡ Some k) where
    pub record_allowed : (bytes : Record) → starts_with byte bytes ≡ true → fields_allowed (layout k) ≡ true → AllByRecursion Allowed (handles_of bytes)
    record_allowed [] s e = absurd cc
    record_allowed (first ∷ body) s e =
        subst (λ o. AllByRecursion Allowed (parts_handles (body_of o body))) (sym (ap kind_of (eqb-true first byte s) ∙ is))
        (all_of (length body == size_of (layout k)) k body e)

    pub field_of_allowed : (bytes : Record) (n : ℕ) → starts_with byte bytes ≡ true → one_allowed (layout k) n ≡ true → AllByRecursion Allowed (field_of bytes n)
    field_of_allowed [] n s e = absurd cc
    field_of_allowed (first ∷ body) n s e =
        subst (λ o. AllByRecursion Allowed (parts_field (body_of o body) n)) (sym (ap kind_of (eqb-true first byte s) ∙ is))
        (one_of (length body == size_of (layout k)) k body n e)
