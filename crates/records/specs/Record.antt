-- Which byte strings are records, and why another is refused.
use Rattle.std.specs.Prelude.{ℕ, ◌+◌, ◌*◌, Bool, true, false, cond, ◌&&◌, List, [], ◌∷◌, length, drop, Some, None, Ok, Err, Option, Result, ◌==◌, slice_index}
use Rattle.std.specs.List.{slice_get}
use Rattle.ir.specs.declared.fields.Word.{Word}
use Rattle.ir.specs.declared.fields.Field.{Field}
use Rattle.ir.specs.declared.fields.Field.TheVariants.{Word as one, Case}
use Rattle.ir.specs.declared.kinds.Kind.{Kind}
use Rattle.ir.specs.Field.{cases_of, width_of, fits}
use Rattle.ir.specs.Layout.{layout, size_of}
use Rattle.ir.specs.Number.{kind_of}
use Rattle.records.specs.declared.judge.Flaw.{Flaw}
use Rattle.records.specs.declared.judge.Flaw.TheVariants.{NoSuchKind, WrongLength, BadField}

-- the number of a refusal
abbrev pub flaw_number : Flaw → ℕ
flaw_number NoSuchKind = 1
flaw_number WrongLength = 2
flaw_number BadField = 3

-- the number in the first four bytes, low byte first
abbrev pub number : List ℕ → ℕ
number bytes = slice_index bytes 0 + slice_index bytes 1 * 256 + slice_index bytes 2 * 65536 + slice_index bytes 3 * 16777216

-- every word may hold what stands at its place
abbrev pub words_fit : List Word → List ℕ → Bool
words_fit [] bytes = true
words_fit (w ∷ ws) bytes = fits w (number bytes) && words_fit ws (drop 4 bytes)

-- a case byte needs a row, whose words must fit what follows the byte
abbrev pub case_fits : Option (List Word) → List ℕ → Bool
case_fits None bytes = false
case_fits (Some ws) bytes = words_fit ws bytes

abbrev pub field_fits : Field → List ℕ → Bool
field_fits (one w) bytes = fits w (number bytes)
field_fits (Case c) bytes = case_fits (slice_get (cases_of c) (slice_index bytes 0)) (drop 1 bytes)

-- the fields stand one after the other
abbrev pub fields_fit : List Field → List ℕ → Bool
fields_fit [] bytes = true
fields_fit (f ∷ fs) bytes = field_fits f bytes && fields_fit fs (drop (width_of f) bytes)

abbrev pub body_of : Option Kind → List ℕ → Result (Kind × List ℕ) Flaw
body_of None body = Err NoSuchKind
body_of (Some k) body = cond (length body == size_of (layout k)) (Ok (k, body)) (Err WrongLength)

-- the kind and the body of a byte string that is a record: one byte of kind, then as many as the kind fixes
abbrev pub parts_of : List ℕ → Result (Kind × List ℕ) Flaw
parts_of [] = Err NoSuchKind
parts_of (byte ∷ body) = body_of (kind_of byte) body

abbrev pub judged_parts : Result (Kind × List ℕ) Flaw → Result Kind Flaw
judged_parts (Ok p) = cond (fields_fit (layout p.0) p.1) (Ok p.0) (Err BadField)
judged_parts (Err e) = Err e

-- the kind of a record whose fields hold what they may, or why there is none
abbrev pub judged : List ℕ → Result Kind Flaw
judged bytes = judged_parts (parts_of bytes)
