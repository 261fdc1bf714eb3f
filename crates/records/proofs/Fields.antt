-- What is said of fields and words one by one is what is said of whole bodies.
use Rattle.std.proofs.Common.{◌≡◌, ℕ, zero, suc, Bool, true, cond, ◌&&◌, List, [], ◌∷◌, ◌++◌, drop, Some, None, Ok, Err, Option, Result, refl, sym, ap, ◌∙◌}
use Rattle.std.specs.Prelude.{slice_index}
use Rattle.std.specs.List.{slice_get, list_all, filter_map, cons_option}
use Rattle.std.proofs.lemmas.Option.{none-some, same_Some}
use Rattle.std.proofs.Math.Bool.{and-true}
use Rattle.ir.specs.declared.handle.Handle.{Handle}
use Rattle.ir.specs.declared.fields.Word.{Word}
use Rattle.ir.specs.declared.fields.Field.{Field}
use Rattle.ir.specs.declared.fields.Field.TheVariants.{Word as one, Case}
use Rattle.ir.specs.declared.kinds.Kind.{Kind}
use Rattle.ir.specs.Field.{cases_of, width_of, fits, handle_in}
use Rattle.ir.specs.Layout.{layout}
use Rattle.records.specs.declared.judge.Flaw.{Flaw}
use Rattle.records.specs.declared.judge.Flaw.TheVariants.{BadField}
use Rattle.records.specs.Record.{number, words_fit, case_fits, field_fits, fields_fit, judged_parts, parts_of, judged}
use Rattle.records.specs.Handles.{joining, words_handles, field_handles, fields_handles, fields_tested, parts_handles, handles_of, field_in, parts_field, field_of}
use Rattle.records.specs.Left.{words_in, row_words, field_words, placed, all_fit, placed_parts, fields_of}
use Rattle.records.specs.Gathered.{word_handle, handles_at, handles_in, tested_in}

-- a word may hold its number
abbrev pub word_fits : Word × ℕ → Bool
word_fits p = fits p.0 p.1

words_all : (ws : List Word) (bytes : List ℕ) → list_all word_fits (words_in ws bytes) ≡ words_fit ws bytes
words_all [] bytes = refl
words_all (w ∷ ws) bytes = ap (λ b. fits w (number bytes) && b) (words_all ws (drop 4 bytes))

joins : (o : Option Handle) (hs : List Handle) → cons_option o hs ≡ joining o hs
joins None hs = refl
joins (Some h) hs = refl

pub words_gathered : (ws : List Word) (bytes : List ℕ) → filter_map word_handle (words_in ws bytes) ≡ words_handles ws bytes
words_gathered [] bytes = refl
words_gathered (w ∷ ws) bytes =
    joins (handle_in w (number bytes)) (filter_map word_handle (words_in ws (drop 4 bytes))) ∙
    ap (joining (handle_in w (number bytes))) (words_gathered ws (drop 4 bytes))

row_all : (o : Option (List Word)) (bytes : List ℕ) (ws : List (Word × ℕ)) → row_words o bytes ≡ Some ws → list_all word_fits ws ≡ case_fits o bytes
row_all None bytes ws e = absurd (none-some ws e)
row_all (Some row) bytes ws e =
    ap (list_all word_fits) (sym (same_Some (words_in row bytes) ws e)) ∙ words_all row bytes

pub field_all : (f : Field) (bytes : List ℕ) (ws : List (Word × ℕ)) → field_words f bytes ≡ Some ws → list_all word_fits ws ≡ field_fits f bytes
field_all (one w) bytes ws e =
    ap (list_all word_fits) (sym (same_Some (words_in (w ∷ []) bytes) ws e)) ∙ and-true (fits w (number bytes))
field_all (Case c) bytes ws e = row_all (slice_get (cases_of c) (slice_index bytes 0)) (drop 1 bytes) ws e

-- field after field

pub fields_all : (fs : List Field) (bytes : List ℕ) → all_fit (placed fs bytes) ≡ fields_fit fs bytes
fields_all [] bytes = refl
fields_all (f ∷ fs) bytes = ap (λ b. field_fits f bytes && b) (fields_all fs (drop (width_of f) bytes))

pub fields_gathered : (fs : List Field) (bytes : List ℕ) → handles_in (placed fs bytes) ≡ fields_handles fs bytes
fields_gathered [] bytes = refl
fields_gathered (f ∷ fs) bytes =
    ap (λ hs. field_handles f bytes ++ hs) (fields_gathered fs (drop (width_of f) bytes))

pub fields_swapped : (fs : List Field) (bytes : List ℕ) → tested_in (placed fs bytes) ≡ fields_tested true fs bytes
fields_swapped [] bytes = refl
fields_swapped (f ∷ []) bytes = refl
fields_swapped (f ∷ g ∷ fs) bytes =
    ap (λ hs. field_handles g (drop (width_of f) bytes) ++ (field_handles f bytes ++ hs))
    (fields_gathered fs (drop (width_of g) (drop (width_of f) bytes)))

-- a record

ok_is : {A E : Type 0} (x y : A) → ◌≡◌ {A = Result A E} (Ok x) (Ok y) → x ≡ y
ok_is x y e = cc

module _ {k : Kind} {ps : List (Field × List ℕ)} where
  -- the body that a kind and its fields come from
  pub parts_are : (r : Result (Kind × List ℕ) Flaw) → placed_parts r ≡ Ok (k, ps) → (body : List ℕ) × (r ≡ Ok (k, body)) × (ps ≡ placed (layout k) body)
  parts_are (Ok p) e =
      let same : (p.0, placed (layout p.0) p.1) ≡ (k, ps) = ok_is {E = Flaw} _ _ e in
      let kind = ap (λ (q : Kind × List (Field × List ℕ)). q.0) same in
      let fields = ap (λ (q : Kind × List (Field × List ℕ)). q.1) same in
      (p.1, ap (λ (x : Kind). Ok (x, p.1)) kind, sym fields ∙ ap (λ (x : Kind). placed (layout x) p.1) kind)
  parts_are (Err f) e = absurd cc

  pub judged_is : (bytes : List ℕ) (fit : Bool) → fields_of bytes ≡ Ok (k, ps) → fit ≡ all_fit ps → cond fit (Ok k) (Err BadField) ≡ judged bytes
  judged_is bytes fit e tests =
      let p = parts_are (parts_of bytes) e in
      ap (λ b. cond b (Ok k) (Err BadField)) (tests ∙ ap all_fit p.2 ∙ fields_all (layout k) p.0) ∙ sym (ap judged_parts p.1)

  pub handles_are : (bytes : List ℕ) → fields_of bytes ≡ Ok (k, ps) → handles_in ps ≡ handles_of bytes
  handles_are bytes e =
      let p = parts_are (parts_of bytes) e in
      ap handles_in p.2 ∙ fields_gathered (layout k) p.0 ∙ sym (ap parts_handles p.1)

-- one field of a body
field_at : (fs : List Field) (n : ℕ) (bytes : List ℕ) (p : Field × List ℕ) → slice_get (placed fs bytes) n ≡ Some p → handles_at p ≡ field_in fs n bytes
field_at [] n bytes p e = absurd cc
field_at (f ∷ fs) zero bytes p e = sym (ap handles_at (same_Some (f, bytes) p e))
field_at (f ∷ fs) (suc n) bytes p e = field_at fs n (drop (width_of f) bytes) p e

no_field : (fs : List Field) (n : ℕ) (bytes : List ℕ) → slice_get (placed fs bytes) n ≡ None → [] ≡ field_in fs n bytes
no_field [] n bytes e = refl
no_field (f ∷ fs) zero bytes e = absurd cc
no_field (f ∷ fs) (suc n) bytes e = no_field fs n (drop (width_of f) bytes) e

module _ (bytes : List ℕ) (k : Kind) {ps : List (Field × List ℕ)} (e : fields_of bytes ≡ Ok (k, ps)) (n : ℕ) where
  pub field_is : (p : Field × List ℕ) → slice_get ps n ≡ Some p → handles_at p ≡ field_of bytes n
  field_is p at =
      let q = parts_are (parts_of bytes) e in
      field_at (layout k) n q.0 p (sym (ap (λ l. slice_get l n) q.2) ∙ at) ∙ sym (ap (λ r. parts_field r n) q.1)

  pub field_past : slice_get ps n ≡ None → [] ≡ field_of bytes n
  field_past at =
      let q = parts_are (parts_of bytes) e in
      no_field (layout k) n q.0 (sym (ap (λ l. slice_get l n) q.2) ∙ at) ∙ sym (ap (λ r. parts_field r n) q.1)

no_field_of : (r : Result (Kind × List ℕ) Flaw) (e : Flaw) (n : ℕ) → placed_parts r ≡ Err e → [] ≡ parts_field r n
no_field_of (Ok p) e n same = absurd cc
no_field_of (Err f) e n same = refl

pub field_none : (bytes : List ℕ) (e : Flaw) (n : ℕ) → fields_of bytes ≡ Err e → [] ≡ field_of bytes n
field_none bytes e n same = no_field_of (parts_of bytes) e n same

no_handles : (r : Result (Kind × List ℕ) Flaw) (e : Flaw) → placed_parts r ≡ Err e → [] ≡ parts_handles r
no_handles (Ok p) e same = absurd cc
no_handles (Err f) e same = refl

pub handles_none : (bytes : List ℕ) (e : Flaw) → fields_of bytes ≡ Err e → [] ≡ handles_of bytes
handles_none bytes e same = no_handles (parts_of bytes) e same
