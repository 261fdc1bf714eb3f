-- A scan of the slots gives the places of the items of a table, in the order of their numbers.
use Rattle.std.proofs.Common.{◌≡◌, ℕ, suc, ◌+◌, ◌<◌, ◌≤◌, Bool, true, false, cond, ◌&&◌, List, [], ◌∷◌, ◌++◌, map, length, get_or, take, is_ok, Some, fold, Option, sym, refl, ap, ◌∙◌, subst, append_assoc, append-nil, arith}
use Rattle.std.specs.List.{slice_get}
use Rattle.std.proofs.lemmas.List.{map_push}
use Rattle.std.proofs.lemmas.Option.{slice_get-get_or}
use Rattle.ir.specs.declared.handle.Table.{Table}
use Rattle.ir.specs.declared.handle.Table.TheVariants as handles
use Rattle.records.specs.Record.{judged}
use Rattle.rules.specs.Module.{Record, Item}
use Rattle.draft.specs.declared.state.SlotTable.{SlotTable}
use Rattle.draft.specs.State.{State, start, step, state, item_of, number_of_next, table_of}
use Rattle.draft.specs.Admitted.{Accepted, admitted}
use Rattle.draft.proofs.Stepping.{admitted_kind, step_is}
use Rattle.arena.specs.declared.slot.Slot.{Slot}
use Rattle.arena.specs.declared.view.Home.{Home}
use Rattle.arena.specs.declared.view.Home.TheVariants as home
use Rattle.arena.specs.Memory.{table_judged, slot_of, layout_from, layout}
use Rattle.arena.specs.Viewing.{items_in, places_in, slot_table, among, enters, places_left}
use Rattle.arena.proofs.Placing.{layout_at, length_layout}
use Rattle.arena.proofs.Homes.{grown, FlagOf, Step, home_step}

place_split : (b : Bool) (xs : List Item) (i : Item) (rest : List ℕ) → map (λ j. j.place) (grown b xs i) ++ rest ≡ map (λ j. j.place) xs ++ cond b (i.place ∷ rest) rest
place_split true xs i rest = ap (λ l. l ++ rest) (map_push (λ j. j.place) xs i) ∙ append_assoc (map (λ j. j.place) xs) (i.place ∷ []) rest
place_split false xs i rest = refl

module _ (h : Home) (t : Table) where
  -- the table of the record that comes next, the flag at it, and whether it is an item of the table
  abbrev next_table : State → Record → SlotTable
  next_table s r = table_judged s (judged r)

  abbrev next_flag : Bool → State → Record → Bool
  next_flag f s r = enters h f (next_table s r) (number_of_next (next_table s r) s)

  abbrev next_hit : Bool → State → Record → Bool
  next_hit f s r = next_flag f s r && among (slot_table h t) (next_table s r)

  -- the places of the items that these records add to the table
  abbrev new_places : Bool → State → List Record → List ℕ
  new_places f s [] = []
  new_places f s (r ∷ m) = cond (next_hit f s r) (s.kept ∷ new_places (next_flag f s r) (step s r) m) (new_places (next_flag f s r) (step s r) m)

  next : (f : Bool) (s : State) (r : Record) → is_ok (admitted s r) ≡ true → FlagOf h s f → Step h t s (step s r) (next_table s r) (item_of s r) f
  next f s r ok flag =
      let p = admitted_kind s r ok in
      subst (λ y. Step h t s (step s r) y (item_of s r) f) (sym (ap (table_judged s) p.1.kind_is))
      (subst (λ y. Step h t s y (table_of s p.0) (item_of s r) f) (sym (step_is s r p.0 p.1.kind_is)) (home_step s r p.0 p.1 h t f flag))

  kept_next : (s : State) (r : Record) → is_ok (admitted s r) ≡ true → (step s r).kept ≡ s.kept + 1
  kept_next s r ok = let p = admitted_kind s r ok in ap (λ y. y.kept) (step_is s r p.0 p.1.kind_is)

  places_from : (f : Bool) (s : State) (m : List Record) → Accepted s m → FlagOf h s f → places_in h t (fold step s m) ≡ places_in h t s ++ new_places f s m
  places_from f s [] a flag = sym (append-nil (places_in h t s))
  places_from f s (r ∷ m) a flag =
      let n = next f s r a.0 flag in
      places_from (next_flag f s r) (step s r) m a.1 n.flag
      ∙ ap (λ l. map (λ j. j.place) l ++ new_places (next_flag f s r) (step s r) m) n.items
      ∙ place_split (next_hit f s r) (items_in h t s) (item_of s r) (new_places (next_flag f s r) (step s r) m)

  -- they are those that a scan of the slots gives
  scan_from : (f : Bool) (s : State) (m : List Record) → Accepted s m → places_left h (slot_table h t) f s.kept (layout_from s m) ≡ new_places f s m
  scan_from f s [] a = refl
  scan_from f s (r ∷ m) a =
      ap (λ l. cond (next_hit f s r) (s.kept ∷ l) l) (ap (λ k. places_left h (slot_table h t) (next_flag f s r) k (layout_from (step s r) m)) (sym (kept_next s r a.0)) ∙ scan_from (next_flag f s r) (step s r) m a.1)

none_yet : (h : Home) (t : Table) → items_in h t start ≡ []
none_yet home.Module handles.Types = refl
none_yet home.Module t = refl
none_yet h t = refl

start_flag : (h : Home) (f : Bool) → FlagOf h start f
start_flag home.Module f = tt
start_flag (home.Function n) f = tt
start_flag (home.EntryPoint n) f = tt

module _ (h : Home) (t : Table) (m : List Record) (a : Accepted start m) where
  places_are : places_in h t (state m) ≡ new_places h t false start m
  unfolding state
  places_are = places_from h t false start m a (start_flag h false) ∙ ap (λ l. map (λ j. j.place) l ++ new_places h t false start m) (none_yet h t)

  pub scan_is : places_left h (slot_table h t) false 0 (layout m) ≡ places_in h t (state m)
  scan_is = scan_from h t false start m a ∙ sym places_are

-- no more places are left than slots
pub few_left : (h : Home) (w : Option SlotTable) (f : Bool) (p : ℕ) (ss : List Slot) → length (places_left h w f p ss) ≤ length ss
few_left h w f p [] = omega arith
few_left h w f p (s ∷ ss) = one_more (enters h f s.table s.number && among w s.table) p _ _ (few_left h w (enters h f s.table s.number) (p + 1) ss)
  where
    one_more : (b : Bool) (p n : ℕ) (ps : List ℕ) → length ps ≤ n → length (cond b (p ∷ ps) ps) ≤ suc n
    one_more true p n ps l = omega arith
    one_more false p n ps l = omega arith

-- the slot of the record at a place
pub slot_at : (m : List Record) (p : ℕ) → p < length m → slice_get (layout m) p ≡ Some (slot_of (state (take p m)) (get_or m p []))
unfolding state
slot_at m p l =
    let s = slot_of (state (take p m)) (get_or m p []) in
    slice_get-get_or (layout m) p s (subst (λ n. p < n) (sym (length_layout start m)) l) ∙ ap Some (layout_at start m p s l)
