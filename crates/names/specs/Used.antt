-- How many words a case uses.
use Rattle.std.specs.Prelude.{ℕ, ◌+◌, List, [], ◌∷◌, Some, None, Option}
use Rattle.ir.specs.declared.fields.Word.{Word}
use Rattle.ir.specs.declared.fields.Word.TheVariants.{Mark, Number, NonZero, Handle, Optional, Unused}

-- how many words are not unused
abbrev pub used : List Word → ℕ
used [] = 0
used (Mark ∷ ws) = 1 + used ws
used (Number ∷ ws) = 1 + used ws
used (NonZero ∷ ws) = 1 + used ws
used (Handle t ∷ ws) = 1 + used ws
used (Optional t ∷ ws) = 1 + used ws
used (Unused ∷ ws) = used ws

-- none where there is no such case
abbrev pub used_in : Option (List Word) → ℕ
used_in None = 0
used_in (Some ws) = used ws
