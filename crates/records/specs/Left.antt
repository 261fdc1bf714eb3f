-- What the iterators over a body, its fields' words and its handles have left.
use Rattle.std.specs.Prelude.{ℕ, List, [], ◌∷◌, drop, Bool, Some, None, Ok, Err, Option, Result, slice_index}
use Rattle.std.specs.List.{slice_get, list_all}
use Rattle.ir.specs.declared.fields.Word.{Word}
use Rattle.ir.specs.declared.fields.Field.{Field}
use Rattle.ir.specs.declared.fields.Field.TheVariants.{Word as one, Case}
use Rattle.ir.specs.declared.kinds.Kind.{Kind}
use Rattle.ir.specs.Field.{cases_of, width_of}
use Rattle.ir.specs.Layout.{layout}
use Rattle.records.specs.declared.body.Words.{Words}
use Rattle.records.specs.declared.body.Placed.{Placed}
use Rattle.records.specs.declared.body.Body.{Body}
use Rattle.records.specs.declared.judge.Flaw.{Flaw}
use Rattle.records.specs.Record.{number, field_fits, parts_of}

-- words, each with the number that it holds
abbrev pub words_in : List Word → List ℕ → List (Word × ℕ)
words_in [] bytes = []
words_in (w ∷ ws) bytes = (w, number bytes) ∷ words_in ws (drop 4 bytes)

abbrev pub words_left : Words → List (Word × ℕ)
words_left w = words_in w.words.now w.bytes.now

abbrev pub row_words : Option (List Word) → List ℕ → Option (List (Word × ℕ))
row_words None bytes = None
row_words (Some ws) bytes = Some (words_in ws bytes)

-- those of a field: the row of its case, if it is one
abbrev pub field_words : Field → List ℕ → Option (List (Word × ℕ))
field_words (one w) bytes = Some (words_in (w ∷ []) bytes)
field_words (Case c) bytes = row_words (slice_get (cases_of c) (slice_index bytes 0)) (drop 1 bytes)

-- fields, each with the bytes that begin with it
abbrev pub placed : List Field → List ℕ → List (Field × List ℕ)
placed [] bytes = []
placed (f ∷ fs) bytes = (f, bytes) ∷ placed fs (drop (width_of f) bytes)

abbrev pub placed_at : Placed → Field × List ℕ
placed_at p = (p.field.now, p.bytes.now)

abbrev pub body_left : Body → List (Field × List ℕ)
body_left b = placed b.fields.now b.bytes.now

-- every field holds what it may
abbrev pub all_fit : List (Field × List ℕ) → Bool
all_fit ps = list_all (λ p. field_fits p.0 p.1) ps

abbrev pub placed_parts : Result (Kind × List ℕ) Flaw → Result (Kind × List (Field × List ℕ)) Flaw
placed_parts (Ok p) = Ok (p.0, placed (layout p.0) p.1)
placed_parts (Err e) = Err e

-- the kind and the fields of a byte string that is a record
abbrev pub fields_of : List ℕ → Result (Kind × List (Field × List ℕ)) Flaw
fields_of bytes = placed_parts (parts_of bytes)
