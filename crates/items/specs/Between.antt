-- The items that the records from one place up to another make.
use Rattle.std.specs.Prelude.{◌≡◌, ℕ, cond, List, [], ◌∷◌, take, drop, Some}
use Rattle.std.specs.List.{slice_get}
use Rattle.rules.specs.Module.{Record, Item}
use Rattle.draft.specs.State.{State, step, state, item_of}
use Rattle.arena.specs.declared.slot.Slot.{Slot}
use Rattle.arena.specs.Memory.{slot_of}
use Rattle.items.specs.declared.section.Section.{Section}
use Rattle.items.specs.Sections.{selects}

-- the kept record at a place, and its slot
pub record EntryAt (m : List Record) (place : ℕ) (slot : Slot) (bytes : Record) : Type 0 where
  pub has : slice_get m place ≡ Some bytes
  pub slot_is : slot ≡ slot_of (state (take place m)) bytes

-- the item that a record at a place makes: it takes what waits there
abbrev pub item_at : List Record → ℕ → Record → Item
item_at m place bytes = record { place = place; bytes = bytes; taken = (state (take place m)).waiting }

-- the items of a section that records add
abbrev pub gained : Section → State → List Record → List Item
gained sec s [] = []
gained sec s (r ∷ m) = cond (selects sec s r) (item_of s r ∷ gained sec (step s r) m) (gained sec (step s r) m)

-- those that the records from one place up to another add
unfoldable pub items_between : Section → List Record → ℕ → ℕ → List Item
items_between sec m from to = gained sec (state (take from m)) (drop from (take to m))
