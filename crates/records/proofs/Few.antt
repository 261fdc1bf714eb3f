-- A body has no more handles than bytes.
use Rattle.std.proofs.Common.{◌≡◌, ℕ, ◌*◌, zero, suc, ◌+◌, ◌≤◌, Bool, true, ◌&&◌, leb, List, [], ◌∷◌, length, drop, Some, None, Option, refl, subst, arith, length-append, sym}
use Rattle.std.proofs.lemmas.Bool.{and_parts, leb-true}
use Rattle.std.proofs.lemmas.Option.{same_Some}
use Rattle.std.specs.List.{slice_get}
use Rattle.std.specs.Prelude.{slice_index}
use Rattle.ir.specs.declared.handle.Handle.{Handle}
use Rattle.ir.specs.declared.fields.Word.{Word}
use Rattle.ir.specs.declared.fields.Cases.{Cases}
use Rattle.ir.specs.declared.fields.Cases.TheVariants as cases
use Rattle.ir.specs.declared.fields.Field.{Field}
use Rattle.ir.specs.declared.fields.Field.TheVariants.{Word as one, Case}
use Rattle.ir.specs.Field.{cases_of, words_of, width_of, handle_in}
use Rattle.ir.specs.Layout.{size_of}
use Rattle.records.specs.Handles.{joining, words_handles, case_handles, field_handles, fields_handles}
use Rattle.records.specs.Record.{number}
use Rattle.records.specs.declared.body.Words.{Words}
use Rattle.records.specs.declared.handles.Handles.{Handles}
use Rattle.records.specs.Left.{body_left}
use Rattle.records.specs.Gathered.{word_handles, handles_in, handles_left}
use Rattle.records.proofs.Fields.{words_gathered, fields_gathered}

abbrev rows_fit : ℕ → List (List Word) → Bool
rows_fit n [] = true
rows_fit n (ws ∷ rows) = leb (length ws) n && rows_fit n rows

-- no row of a case is longer than the words that follow its byte
all_rows : (c : Cases) → rows_fit (words_of c) (cases_of c) ≡ true
all_rows cases.Bool = refl
all_rows _ = refl

row_fits : (n : ℕ) (rows : List (List Word)) (k : ℕ) (ws : List Word) → rows_fit n rows ≡ true → slice_get rows k ≡ Some ws → length ws ≤ n
row_fits n [] k ws all e = let z : ◌≡◌ {A = ℕ} 0 1 = cc in absurd (omega arith)
row_fits n (row ∷ rows) zero ws all e =
    subst (λ (xs : List Word). length xs ≤ n) (same_Some row ws e) (leb-true _ _ (and_parts (leb (length row) n) (rows_fit n rows) all).0)
row_fits n (row ∷ rows) (suc k) ws all e =
    row_fits n rows k ws (and_parts (leb (length row) n) (rows_fit n rows) all).1 e

joined_few : (o : Option Handle) (hs : List Handle) → length (joining o hs) ≤ 1 + length hs
joined_few None hs = omega arith
joined_few (Some h) hs = omega arith

words_few : (ws : List Word) (bytes : List ℕ) → length (words_handles ws bytes) ≤ length ws
words_few [] bytes = omega arith
words_few (w ∷ ws) bytes =
    omega (arith, joined_few (handle_in w (number bytes)) (words_handles ws (drop 4 bytes)), words_few ws (drop 4 bytes))

case_few : (n : ℕ) (o : Option (List Word)) (bytes : List ℕ) → ((ws : List Word) → o ≡ Some ws → length ws ≤ n) → length (case_handles o bytes) ≤ n
case_few n None bytes fits = omega arith
case_few n (Some ws) bytes fits = omega (arith, words_few ws bytes, fits ws refl)

field_few : (f : Field) (bytes : List ℕ) → length (field_handles f bytes) ≤ width_of f
field_few (one w) bytes = omega (arith, joined_few (handle_in w (number bytes)) [])
field_few (Case c) bytes =
    let few = case_few (words_of c) (slice_get (cases_of c) (slice_index bytes 0)) (drop 1 bytes) (λ ws e. row_fits (words_of c) (cases_of c) (slice_index bytes 0) ws (all_rows c) e) in
    omega (arith, few)

pub fields_few : (fs : List Field) (bytes : List ℕ) → length (fields_handles fs bytes) ≤ size_of fs
fields_few [] bytes = omega arith
fields_few (f ∷ fs) bytes =
    let here = field_few f bytes in
    let later = fields_few fs (drop (width_of f) bytes) in
    simp length-append (omega (arith, here, later))

words_few_in : (w : Words) → length (word_handles w) ≤ length w.words.now
words_few_in w = subst (λ (hs : List Handle). length hs ≤ length w.words.now) (sym (words_gathered w.words.now w.bytes.now)) (words_few w.words.now w.bytes.now)

-- of what is left of a body
pub left_few : (h : Handles) → 2 * length (handles_left h) ≤ length h.front.bytes.now + length h.words.bytes.now + 2 * length h.later.bytes.now
left_few h =
    let front = words_few_in h.front in
    let here = words_few_in h.words in
    let later : length (handles_in (body_left h.later)) ≤ size_of h.later.fields.now =
    subst (λ (hs : List Handle). length hs ≤ size_of h.later.fields.now) (sym (fields_gathered h.later.fields.now h.later.bytes.now)) (fields_few h.later.fields.now h.later.bytes.now) in
    simp length-append (omega (arith, front, here, later, h.front.room, h.words.room, h.later.room))
