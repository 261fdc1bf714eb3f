-- How a draft stands in the memory that is lent.
use Rattle.std.specs.Prelude.{◌≡◌, ℕ, ◌+◌, true, List, [], ◌∷◌, length, take, drop, is_err, Ok, Err, Result}
use Rattle.std.specs.List.{between}
use Rattle.std.specs.Coded.{×_prop, Unit-prop, Coded-set, coded_bool}
use Rattle.ir.specs.declared.kinds.Kind.{Kind}
use Rattle.records.specs.declared.judge.Flaw.{Flaw}
use Rattle.records.specs.Record.{judged}
use Rattle.rules.specs.Module.{Record}
use Rattle.draft.specs.declared.refusal.Refusal.{Refusal}
use Rattle.draft.specs.declared.state.SlotTable.{SlotTable}
use Rattle.draft.specs.declared.state.SlotTable.TheVariants as table
use Rattle.draft.specs.declared.counts.Counts.{Counts}
use Rattle.draft.specs.State.{State, start, step, state, table_of, number_of_next}
use Rattle.draft.specs.Counting.{counts_of}
use Rattle.draft.specs.Admitted.{image, Accepted}
use Rattle.arena.specs.Answer.{Answer}
use Rattle.arena.specs.declared.slot.Slot.{Slot}
use Rattle.arena.specs.declared.Draft.{Draft}

abbrev pub table_judged : State → Result Kind Flaw → SlotTable
table_judged s (Err e) = table.Unnumbered
table_judged s (Ok k) = table_of s k

-- the slot of a record that comes next: where it begins, its table and its number there
abbrev pub slot_in : State → SlotTable → Slot
slot_in s t = record { start = s.used; table = t; number = number_of_next t s }

abbrev pub slot_of : State → Record → Slot
slot_of s r = slot_in s (table_judged s (judged r))

abbrev pub layout_from : State → List Record → List Slot
layout_from s [] = []
layout_from s (r ∷ m) = slot_of s r ∷ layout_from (step s r) m

-- the slots of records, one for each
abbrev pub layout : List Record → List Slot
layout m = layout_from start m

-- the memory holds these records: their bytes one after the other, their slots, and behind both what is free
pub record Holds (c : Counts) (bytes : List ℕ) (slots : List Slot) (m : List Record) : Type 0 where
  pub counts_are : c ≡ counts_of (state m)
  pub bytes_are : take c.used bytes ≡ image m
  pub slots_are : take c.kept slots ≡ layout m
  pub accepted : Accepted start m

-- a record ends where the next one begins
abbrev pub next_start : List Slot → ℕ → ℕ
next_start [] end = end
next_start (s ∷ ss) end = s.start

abbrev pub cuts : List Slot → ℕ → List ℕ → List Record
cuts [] end bytes = []
cuts (s ∷ ss) end bytes = between s.start (next_start ss end) bytes ∷ cuts ss end bytes

unfoldable pub read_off : Counts → List ℕ → List Slot → List Record
read_off c bytes slots = cuts (take c.kept slots) c.used bytes

abbrev pub Standing : Counts → List ℕ → List Slot → Type 0
Standing c bytes slots = Holds c bytes slots (read_off c bytes slots)

-- the kept records of a draft, read off its memory
abbrev pub records : Draft → List ℕ → List Slot → List Record
records d bytes slots = read_off d.counts bytes slots

-- the memory is as the draft's last call left it: it holds the records that are read off it
abbrev pub Stands : Draft → List ℕ → List Slot → Type 0
Stands d bytes slots = Standing d.counts bytes slots

-- records are accepted in one way, so that a struct can hold the fact that its memory stands
pub Accepted-prop : (s : State) (m : List Record) → IsProp (Accepted s m)
Accepted-prop s [] = Unit-prop
Accepted-prop s (r ∷ m) = ×_prop (Coded-set coded_bool _ _) (Accepted-prop (step s r) m)

-- free memory: what lies behind the last record
abbrev pub free_bytes : Draft → List ℕ → List ℕ
free_bytes d bytes = drop d.counts.used bytes

abbrev pub free_slots : Draft → List Slot → List Slot
free_slots d slots = drop d.counts.kept slots

-- what is lent is what the records take and what is free
pub record Free (d : Draft) (bytes : List ℕ) (slots : List Slot) : Type 0 where
  pub bytes_left : length (image (records d bytes slots)) + length (free_bytes d bytes) ≡ length bytes
  pub slots_left : length (records d bytes slots) + length (free_slots d slots) ≡ length slots

-- a call answers as defined, its memory then holds the records that are defined, and a refusal changes nothing
pub record Kept (defined : Result Answer Refusal × List Record) (answer : Result Answer Refusal) (c : Counts) (bytes : List ℕ) (slots : List Slot) (c' : Counts) (bytes' : List ℕ) (slots' : List Slot) : Type 0 where
  pub answers : answer ≡ defined.0
  pub stands : Standing c' bytes' slots'
  pub keeps : read_off c' bytes' slots' ≡ defined.1
  pub unchanged : is_err answer ≡ true → (c' ≡ c) × (bytes' ≡ bytes) × (slots' ≡ slots)

abbrev pub KeptAs : Result Answer Refusal × List Record → Result Answer Refusal → Draft → List ℕ → List Slot → Draft → List ℕ → List Slot → Type 0
KeptAs defined answer d bytes slots d' bytes' slots' = Kept defined answer d.counts bytes slots d'.counts bytes' slots'
