-- The law over lists of puts: a number keeps its item, and two types share a number exactly when they are equal.
use Rattle.std.specs.Prelude.{◌≡◌, ℕ, List, [], ◌∷◌, ◌++◌, Some, Ok, fold}
use Rattle.std.specs.List.{slice_get}
use Rattle.ir.specs.declared.handle.Handle.{Handle}
use Rattle.ir.specs.declared.handle.Handle.TheVariants as handle
use Rattle.ir.specs.declared.handle.Table.{Table}
use Rattle.ir.specs.declared.kinds.Kind.{Kind}
use Rattle.ir.specs.Handle.{TypeHandle, index_of, table_of as handle_table}
use Rattle.rules.specs.Module.{Record, Item}
use Rattle.draft.specs.State.{State, state}
use Rattle.draft.specs.Admitted.{admitted}
use Rattle.arena.specs.declared.view.Home.{Home}
use Rattle.arena.specs.Put.{put_def}
use Rattle.arena.specs.Viewing.{items_in}
use Rattle.runs.specs.Homes.{home_of}

module _ (room places : ℕ) where
  -- the kept records after one put
  abbrev pub put_kept : List Record → Record → List Record
  put_kept m r = (put_def room places m r).1

  -- and after many, one after the other
  abbrev pub run : List Record → List Record → List Record
  run m rs = fold (put_kept) m rs

  -- put admits the record as one of this kind, and answers this item
  pub record Numbered (m : List Record) (r : Record) (k : Kind) (h : Handle) : Type 0 where
    pub admits : admitted (state m) r ≡ Ok k
    pub answers : (put_def room places m r).0 ≡ Ok (Some h)

-- this number names, in that table, an item with these bytes that took these records
pub record Names (h : Home) (t : Table) (s : State) (n : ℕ) (r : Record) (taken : List Record) : Type 0 where
  pub item : Item
  pub has : slice_get (items_in h t s) n ≡ Some item
  pub bytes_are : item.bytes ≡ r
  pub taken_are : item.taken ≡ taken

-- of lists of puts on a new draft with this memory
pub record NumbersStay (room places : ℕ) : Type 0 where
  -- the number that put answered for r names, after all later puts, an item equal to the one put, in the same table
  pub stays : (earlier : List Record) (r : Record) (k : Kind) (h : Handle) (later : List Record)
      → Numbered room places (run room places [] earlier) r k h
      → Names (home_of (state (run room places [] earlier)) k) (handle_table h) (state (run room places (put_kept room places (run room places [] earlier) r) later)) (index_of h) r (state (run room places [] earlier)).waiting
  -- two types got one number exactly when they are equal, their members included
  pub one_number : (earlier : List Record) (r : Record) (k : Kind) (n : TypeHandle) (between : List Record) (q : Record) (l : Kind) (o : TypeHandle)
      → Numbered room places (run room places [] earlier) r k (handle.Type n)
      → Numbered room places (run room places (put_kept room places (run room places [] earlier) r) between) q l (handle.Type o)
      → (n ≡ o → (r ≡ q) × ((state (run room places [] earlier)).waiting ≡ (state (run room places (put_kept room places (run room places [] earlier) r) between)).waiting))
      × ((r ≡ q) × ((state (run room places [] earlier)).waiting ≡ (state (run room places (put_kept room places (run room places [] earlier) r) between)).waiting) → n ≡ o)

-- wherever r stands in a list of puts: the number that put answered for it names, in the last state, an item with its
-- bytes that took what waited for it, in the table in which it was put
abbrev pub StillNamed : ℕ → ℕ → List Record → State → Type 0
StillNamed room places puts last =
    (earlier : List Record) (r : Record) (later : List Record) (k : Kind) (h : Handle) → puts ≡ earlier ++ (r ∷ later)
    → Numbered room places (run room places [] earlier) r k h
    → Names (home_of (state (run room places [] earlier)) k) (handle_table h) last (index_of h) r (state (run room places [] earlier)).waiting

-- wherever two types stand in a list of puts: they got one number exactly when they agree in their bytes and in what
-- waited for them
abbrev pub OneNumber : ℕ → ℕ → List Record → Type 0
OneNumber room places puts =
    (a : List Record) (r : Record) (b : List Record) (q : Record) (c : List Record) (k l : Kind) (n o : TypeHandle) → puts ≡ a ++ (r ∷ (b ++ (q ∷ c)))
    → Numbered room places (run room places [] a) r k (handle.Type n)
    → Numbered room places (run room places [] (a ++ (r ∷ b))) q l (handle.Type o)
    → (n ≡ o → (r ≡ q) × ((state (run room places [] a)).waiting ≡ (state (run room places [] (a ++ (r ∷ b)))).waiting))
    × ((r ≡ q) × ((state (run room places [] a)).waiting ≡ (state (run room places [] (a ++ (r ∷ b)))).waiting) → n ≡ o)
