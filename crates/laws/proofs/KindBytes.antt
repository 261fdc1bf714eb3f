-- The first byte of a record that is judged well is the number of its kind.
use Rattle.std.proofs.Common.{◌≡◌, ℕ, ◌<◌, ◌≤◌, Bool, true, false, cond, ◌&&◌, eqb, leb, List, [], ◌∷◌, ◌++◌, length, Some, None, Ok, Err, Option, sym, refl, ap, ◌∙◌, inl, inr, append_assoc, append-nil, arith}
use Rattle.std.proofs.lemmas.Bool.{cases_lt, lt-leb, ne_eqb, leb-true, and_parts, and_right, cond-false}
use Rattle.ir.specs.declared.kinds.Kind.{Kind}
use Rattle.ir.specs.Layout.{layout, size_of}
use Rattle.ir.specs.Number.{kind_of, number_of, within, others, found}
use Rattle.ir.proofs.Numbering.{only_number}
use Rattle.records.specs.declared.judge.Flaw.TheVariants.{WrongLength, BadField}
use Rattle.records.specs.Record.{judged, judged_parts, body_of, fields_fit}
use Rattle.rules.specs.Module.{Record, Item}
use Rattle.laws.specs.Decoded.{Starts}
use Rattle.laws.specs.Grammar.{kind_byte, kinds}

abbrev small_rows : List (ℕ × Kind) → Bool
small_rows [] = true
small_rows (row ∷ rows) = leb row.0 255 && small_rows rows

-- a number above the bytes is no row's
no_row : (b : ℕ) (rows : List (ℕ × Kind)) → 256 ≤ b → small_rows rows ≡ true → found b rows ≡ None
no_row b [] h e = refl
no_row b (row ∷ rows) h e =
    let p = and_parts (leb row.0 255) (small_rows rows) e in
    let l = leb-true row.0 255 p.0 in
    cond-false (eqb b row.0) (Some row.1) (found b rows) (ne_eqb b row.0 (λ same. omega arith)) ∙ no_row b rows h p.1

-- nor is it in a range of bytes
not_within : (low high b : ℕ) → high < b → within low high b ≡ false
not_within low high b h = and_right (leb low b) (leb b high) (lt-leb b high h)

-- no number above the bytes has a kind
too_large : (b : ℕ) → 256 ≤ b → kind_of b ≡ None
too_large b h =
    cond-false (within 16 29 b) _ _ (not_within 16 29 b (omega arith))
    ∙ cond-false (within 64 97 b) _ _ (not_within 64 97 b (omega arith))
    ∙ cond-false (within 128 150 b) _ _ (not_within 128 150 b (omega arith))
    ∙ no_row b others h refl

-- a kind has one number, whatever the numbers
pub numbered : (k : Kind) (b : ℕ) → kind_of b ≡ Some k → b ≡ number_of k
numbered k b e =
    elim (cases_lt b 256) [
      | inl small ↦ only_number k b small e
      | inr large ↦ let none = too_large b large in absurd cc
    ]

checked_kind : (c : Bool) (j k : Kind) → cond c (Ok j) (Err BadField) ≡ Ok k → j ≡ k
checked_kind true j k h = cc
checked_kind false j k h = absurd cc

body_kind : (c : Bool) (j k : Kind) (body : List ℕ) → judged_parts (cond c (Ok (j, body)) (Err WrongLength)) ≡ Ok k → j ≡ k
body_kind true j k body h = checked_kind (fields_fit (layout j) body) j k h
body_kind false j k body h = absurd cc

kind_there : (f : Option Kind) (body : List ℕ) (k : Kind) → judged_parts (body_of f body) ≡ Ok k → f ≡ Some k
kind_there None body k h = absurd cc
kind_there (Some j) body k h = ap Some (body_kind (eqb (length body) (size_of (layout j))) j k body h)

-- the kind byte of a record that is judged well
pub byte_is : (r : Record) (k : Kind) → judged r ≡ Ok k → kind_byte r ≡ number_of k ∷ []
byte_is [] k h = absurd cc
byte_is (b ∷ body) k h = ap (λ n. n ∷ []) (numbered k b (kind_there (kind_of b) body k h))

-- a record that is judged well starts with the number of its kind
pub starts_so : (k : Kind) (r : Record) → judged r ≡ Ok k → Starts r (number_of k)
starts_so k [] h = absurd cc
starts_so k (b ∷ body) h = (body, ap (λ n. n ∷ body) (numbered k b (kind_there (kind_of b) body k h)))

-- the kinds of items with one more
pub kinds_push : (xs : List Item) (i : Item) → kinds (xs ++ i ∷ []) ≡ kinds xs ++ kind_byte i.bytes
kinds_push [] i = append-nil (kind_byte i.bytes)
kinds_push (x ∷ xs) i = ap (λ l. kind_byte x.bytes ++ l) (kinds_push xs i) ∙ sym (append_assoc (kind_byte x.bytes) (kinds xs) (kind_byte i.bytes))
