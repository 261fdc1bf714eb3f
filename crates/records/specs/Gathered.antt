-- The handles of fields, gathered from their words.
use Rattle.std.specs.Prelude.{ℕ, List, [], ◌∷◌, ◌++◌, Option}
use Rattle.std.specs.List.{filter_map, flat_map}
use Rattle.ir.specs.declared.handle.Handle.{Handle}
use Rattle.ir.specs.declared.fields.Word.{Word}
use Rattle.ir.specs.declared.fields.Field.{Field}
use Rattle.ir.specs.Field.{handle_in}
use Rattle.records.specs.declared.body.Words.{Words}
use Rattle.records.specs.declared.handles.Handles.{Handles}
use Rattle.records.specs.Handles.{field_handles}
use Rattle.records.specs.Left.{words_left, body_left}

-- the handle that a word is, if it is one
abbrev pub word_handle : Word × ℕ → Option Handle
word_handle p = handle_in p.0 p.1

abbrev pub word_handles : Words → List Handle
word_handles w = filter_map word_handle (words_left w)

abbrev pub handles_at : Field × List ℕ → List Handle
handles_at p = field_handles p.0 p.1

-- field after field
abbrev pub handles_in : List (Field × List ℕ) → List Handle
handles_in ps = flat_map handles_at ps

-- the second field before the first
abbrev pub tested_in : List (Field × List ℕ) → List Handle
tested_in [] = []
tested_in (p ∷ []) = handles_in (p ∷ [])
tested_in (p ∷ q ∷ ps) = handles_at q ++ (handles_at p ++ handles_in ps)

-- what a search for handles has not passed yet
abbrev pub handles_left : Handles → List Handle
handles_left h = word_handles h.front ++ (word_handles h.words ++ handles_in (body_left h.later))
