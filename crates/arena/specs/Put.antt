-- What put answers, and the kept records after it.
use Rattle.std.specs.Prelude.{ℕ, ◌+◌, ◌-◌, Bool, true, false, cond, ◌&&◌, List, [], ◌∷◌, ◌++◌, length, take, Some, None, Ok, Err, Option, Result, nat_le, nat_lt}
use Rattle.std.specs.Str.{bytes_eq}
use Rattle.ir.specs.declared.kinds.Kind.{Kind}
use Rattle.rules.specs.Module.{Record, Item}
use Rattle.draft.specs.declared.refusal.Refusal.{Refusal}
use Rattle.draft.specs.declared.refusal.Refusal.TheVariants.{Full}
use Rattle.draft.specs.declared.state.SlotTable.{SlotTable}
use Rattle.draft.specs.declared.state.SlotTable.TheVariants as table
use Rattle.draft.specs.State.{State, state, item_of, table_of, number_of_next}
use Rattle.draft.specs.Admitted.{admitted}
use Rattle.arena.specs.Answer.{Answer, answered}

abbrev pub same_records : List Record → List Record → Bool
same_records [] [] = true
same_records [] (y ∷ ys) = false
same_records (x ∷ xs) [] = false
same_records (x ∷ xs) (y ∷ ys) = bytes_eq x y && same_records xs ys

-- equal items agree in their bytes and in those of the records taken, in order
abbrev pub equal_items : Item → Item → Bool
equal_items i j = bytes_eq i.bytes j.bytes && same_records i.taken j.taken

-- the lowest number of an equal item, in a list whose first item has the number n
abbrev pub known_from : ℕ → List Item → Item → Option ℕ
known_from n [] i = None
known_from n (x ∷ xs) i = cond (equal_items x i) (Some n) (known_from (n + 1) xs i)

-- the number of the kept type that equals this one, with what it would take
abbrev pub known : State → Record → Option ℕ
known s r = known_from 0 s.built.types (item_of s r)

-- room is the number of bytes that are lent, and places that of slots
abbrev pub has_room : ℕ → ℕ → ℕ → ℕ → ℕ → ℕ → Bool
has_room room places used kept size number = nat_le (used + size) room && (nat_lt kept places && nat_lt number 4294967295)

abbrev pub fits : ℕ → ℕ → State → Record → SlotTable → Bool
fits room places s r t = has_room room places s.used s.kept (length r) (number_of_next t s)

module _ (room places : ℕ) (m : List Record) (r : Record) where
  -- it joins the end of the list, where there is room
  abbrev pub added : SlotTable → Result Answer Refusal × List Record
  added t = cond (fits room places (state m) r t) (Ok (answered t (number_of_next t (state m))), m ++ r ∷ []) (Err Full, m)

  -- an equal type is not kept, and what it would have taken leaves the list
  abbrev pub known_or_added : Option ℕ → Result Answer Refusal × List Record
  known_or_added (Some n) = (Ok (answered table.Types n), take (length m - length (state m).waiting) m)
  known_or_added None = added table.Types

  abbrev pub put_in : SlotTable → Result Answer Refusal × List Record
  put_in table.Types = known_or_added (known (state m) r)
  put_in t = added t

  abbrev pub put_admitted : Result Kind Refusal → Result Answer Refusal × List Record
  put_admitted (Err e) = (Err e, m)
  put_admitted (Ok k) = put_in (table_of (state m) k)

  -- put of a record on a draft that has kept these, with that much memory: the answer, and the kept records after it
  unfoldable pub put_def : Result Answer Refusal × List Record
  put_def = put_admitted (admitted (state m) r)
