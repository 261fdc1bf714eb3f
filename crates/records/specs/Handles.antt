-- The handles of a record, in the order of its fields and in the order in which they are tested.
use Rattle.std.specs.Prelude.{ℕ, zero, suc, Bool, true, false, List, [], ◌∷◌, ◌++◌, drop, Some, None, Ok, Err, Option, Result, slice_index}
use Rattle.std.specs.List.{slice_get}
use Rattle.ir.specs.declared.handle.Handle.{Handle}
use Rattle.ir.specs.declared.fields.Word.{Word}
use Rattle.ir.specs.declared.fields.Field.{Field}
use Rattle.ir.specs.declared.fields.Field.TheVariants.{Word as one, Case}
use Rattle.ir.specs.declared.kinds.Kind.{Kind}
use Rattle.ir.specs.Field.{cases_of, width_of, handle_in}
use Rattle.ir.specs.Layout.{layout}
use Rattle.ir.specs.Number.{second_first}
use Rattle.records.specs.declared.judge.Flaw.{Flaw}
use Rattle.records.specs.Record.{number, parts_of}

-- a handle, if it is one, in front of others
abbrev pub joining : Option Handle → List Handle → List Handle
joining None hs = hs
joining (Some h) hs = h ∷ hs

abbrev pub words_handles : List Word → List ℕ → List Handle
words_handles [] bytes = []
words_handles (w ∷ ws) bytes = joining (handle_in w (number bytes)) (words_handles ws (drop 4 bytes))

abbrev pub case_handles : Option (List Word) → List ℕ → List Handle
case_handles None bytes = []
case_handles (Some ws) bytes = words_handles ws bytes

-- the handles in a field: the words of other cases hold none
abbrev pub field_handles : Field → List ℕ → List Handle
field_handles (one w) bytes = joining (handle_in w (number bytes)) []
field_handles (Case c) bytes = case_handles (slice_get (cases_of c) (slice_index bytes 0)) (drop 1 bytes)

-- field after field
abbrev pub fields_handles : List Field → List ℕ → List Handle
fields_handles [] bytes = []
fields_handles (f ∷ fs) bytes = field_handles f bytes ++ fields_handles fs (drop (width_of f) bytes)

-- the same, the second field before the first where that is said
abbrev pub fields_tested : Bool → List Field → List ℕ → List Handle
fields_tested false fs bytes = fields_handles fs bytes
fields_tested true [] bytes = []
fields_tested true (f ∷ []) bytes = fields_handles (f ∷ []) bytes
fields_tested true (f ∷ g ∷ fs) bytes =
    field_handles g (drop (width_of f) bytes) ++
    (field_handles f bytes ++ fields_handles fs (drop (width_of g) (drop (width_of f) bytes)))

abbrev pub parts_handles : Result (Kind × List ℕ) Flaw → List Handle
parts_handles (Ok p) = fields_handles (layout p.0) p.1
parts_handles (Err e) = []

-- the handles of a record in order of declaration, absent ones left out: what is no record has none
abbrev pub handles_of : List ℕ → List Handle
handles_of bytes = parts_handles (parts_of bytes)

abbrev pub parts_tested : Result (Kind × List ℕ) Flaw → List Handle
parts_tested (Ok p) = fields_tested (second_first p.0) (layout p.0) p.1
parts_tested (Err e) = []

-- the same handles in the order in which those of an expression or a statement are tested
abbrev pub tested_of : List ℕ → List Handle
tested_of bytes = parts_tested (parts_of bytes)

-- the handles in one field of a record, the first field being 0
abbrev pub field_in : List Field → ℕ → List ℕ → List Handle
field_in [] k bytes = []
field_in (f ∷ fs) zero bytes = field_handles f bytes
field_in (f ∷ fs) (suc k) bytes = field_in fs k (drop (width_of f) bytes)

abbrev pub parts_field : Result (Kind × List ℕ) Flaw → ℕ → List Handle
parts_field (Ok p) k = field_in (layout p.0) k p.1
parts_field (Err e) k = []

abbrev pub field_of : List ℕ → ℕ → List Handle
field_of bytes k = parts_field (parts_of bytes) k
