-- The search for a kept type that equals another.
use Rattle.std.proofs.Common.{◌≡◌, ℕ, zero, suc, ◌+◌, ◌<◌, ◌≤◌, Bool, true, false, cond, List, [], ◌∷◌, ◌++◌, length, get_or, take, drop, is_ok, Some, None, Decides, fold, Option, sym, refl, ap, ◌∙◌, subst, append_assoc, append-nil, arith, length-append}
use Rattle.std.specs.List.{between, AllByRecursion}
use Rattle.std.proofs.lemmas.List.{at_drop_more, at_drop_all, take-append-drop, take_more}
use Rattle.std.proofs.lemmas.List.Sums.{fold_more}
use Rattle.std.proofs.lemmas.Bool.{cond-true, cond-false}
use Rattle.std.proofs.lemmas.Bool.Decides.{same_from_decides}
use Rattle.std.proofs.ByRecursion.{All-push}
use Rattle.ir.specs.declared.kinds.Kind.{Kind}
use Rattle.ir.specs.declared.kinds.Kind.TheVariants as kind
use Rattle.records.specs.Record.{judged}
use Rattle.draft.specs.Admitted.{Accepted, admitted, image}
use Rattle.draft.specs.declared.state.BodyKind.{BodyKind}
use Rattle.draft.specs.declared.state.BodyKind.TheVariants as body_kind
use Rattle.draft.specs.declared.state.SlotTable.{SlotTable}
use Rattle.draft.specs.declared.state.SlotTable.TheVariants as table
use Rattle.arena.specs.declared.slot.Slot.{Slot}
use Rattle.draft.specs.declared.counts.Counts.{Counts}
use Rattle.draft.specs.Manner.{manner_of}
use Rattle.rules.specs.Module.{Record, Item, Body, Module}
use Rattle.draft.specs.State.{State, start, step, state, item_of, module_after, waiting_after, table_in, number_of_next}
use Rattle.arena.specs.Put.{equal_items, known_from, known}
use Rattle.arena.specs.Memory.{table_judged, slot_of, layout, Holds}
use Rattle.draft.proofs.Stepping.{admitted_kind, step_is, accepted_front, image_append, image_more, image_push}
use Rattle.draft.proofs.Fronts.{Fronted, fronted_so}
use Rattle.arena.proofs.Placing.{around, length_layout, slot_there, block_is}
use Rattle.arena.specs.Viewing.{same_table}
use Rattle.arena.proofs.Tables.{not_same}
use Rattle.arena.proofs.Blocks.{Sound, all_sound, all_front, all_back, block_of, blocks_decide}

-- the type that a record of this table makes
abbrev pub own : SlotTable → Item → List Item
own t i = cond (same_table table.Types t) (i ∷ []) []

-- what waits after a record of this table
abbrev pub gathered : SlotTable → List Record → Record → List Record
gathered t ws r = cond (same_table table.Taken t) (ws ++ r ∷ []) []

own_none : (t : SlotTable) (i : Item) → (t ≡ table.Types → ⊥) → own t i ≡ []
own_none t i n = cond-false _ _ _ (not_same table.Types t n)

gathered_none : (t : SlotTable) (ws : List Record) (r : Record) → (t ≡ table.Taken → ⊥) → gathered t ws r ≡ []
gathered_none t ws r n = cond-false _ _ _ (not_same table.Taken t n)

types_at : (k : Kind) (o : Option BodyKind) (b : Body) (i : Item) (m : Module) → (module_after k o b i m).types ≡ m.types ++ own (table_in o (manner_of k).table) i
types_at (kind.Type t) o b i m = refl
types_at kind.EndFunction (Some body_kind.Function) b i m = sym (append-nil m.types)
types_at (kind.Expression e) (Some body_kind.Function) b i m = sym (append-nil m.types)
types_at k o b i m = sym (append-nil m.types)

pub waiting_at : (k : Kind) (o : Option BodyKind) (ws : List Record) (r : Record) → waiting_after (manner_of k).joins ws r ≡ gathered (table_in o (manner_of k).table) ws r
waiting_at (kind.Expression e) (Some body_kind.Function) ws r = refl
waiting_at k o ws r = refl

module _ (s : State) (r : Record) (ok : is_ok (admitted s r) ≡ true) where
  types_step : (step s r).built.types ≡ s.built.types ++ own (table_judged s (judged r)) (item_of s r)
  types_step =
      let p = admitted_kind s r ok in
      ap (λ t. t.built.types) (step_is s r p.0 p.1.kind_is) ∙ types_at p.0 s.opened s.body (item_of s r) s.built ∙ ap (λ t. s.built.types ++ own t (item_of s r)) (sym (ap (table_judged s) p.1.kind_is))

  waiting_step : (step s r).waiting ≡ gathered (table_judged s (judged r)) s.waiting r
  waiting_step =
      let p = admitted_kind s r ok in
      ap (λ t. t.waiting) (step_is s r p.0 p.1.kind_is) ∙ waiting_at p.0 s.opened s.waiting r ∙ ap (λ t. gathered t s.waiting r) (sym (ap (table_judged s) p.1.kind_is))

-- the types that these records add
abbrev pub new_types : State → List Record → List Item
new_types s [] = []
new_types s (r ∷ m) = own (table_judged s (judged r)) (item_of s r) ++ new_types (step s r) m

pub types_from : (s : State) (m : List Record) → Accepted s m → (fold step s m).built.types ≡ s.built.types ++ new_types s m
types_from s [] a = sym (append-nil s.built.types)
types_from s (r ∷ m) a = types_from (step s r) m a.1 ∙ ap (λ l. l ++ new_types (step s r) m) (types_step s r a.0) ∙ append_assoc s.built.types (own (table_judged s (judged r)) (item_of s r)) (new_types (step s r) m)

pub state_more : (m : List Record) (p : ℕ) → p < length m → state (take (p + 1) m) ≡ step (state (take p m)) (get_or m p [])
unfolding state
state_more m p h = fold_more step start m p [] h

accepted_at : (s : State) (m : List Record) (p : ℕ) → p < length m → Accepted s m → is_ok (admitted (fold step s (take p m)) (get_or m p [])) ≡ true
accepted_at s [] p h a = absurd (omega arith)
accepted_at s (x ∷ m) zero h a = a.0
accepted_at s (x ∷ m) (suc p) h a = accepted_at (step s x) m p (omega arith) a.1

pub accepted_here : (m : List Record) (p : ℕ) → p < length m → Accepted start m → is_ok (admitted (state (take p m)) (get_or m p [])) ≡ true
unfolding state
accepted_here m p h a = accepted_at start m p h a

-- the item at a place, its table, and what is known from there on
abbrev pub item_at : List Record → ℕ → Item
item_at m p = item_of (state (take p m)) (get_or m p [])

abbrev pub table_at : List Record → ℕ → SlotTable
table_at m p = table_judged (state (take p m)) (judged (get_or m p []))

abbrev pub known_at : List Record → ℕ → Item → Option ℕ
known_at m p i = known_from (length (state (take p m)).built.types) (new_types (state (take p m)) (drop p m)) i

-- where what the record at a place takes begins
abbrev pub TakingAt : List Record → ℕ → ℕ → Type 0
TakingAt m p from = from + length (image (state (take p m)).waiting) ≡ length (image (take p m))

pub known_start : (m : List Record) (i : Item) → Accepted start m → known_at m 0 i ≡ known_from 0 (state m).built.types i
unfolding state
known_start m i a = ap (λ l. known_from 0 l i) (sym (types_from start m a))

pub taking_start : (m : List Record) → TakingAt m 0 0
unfolding state
taking_start m = refl

pub known_end : (m : List Record) (p : ℕ) (i : Item) → length m ≤ p → known_at m p i ≡ None
known_end m p i h = at_drop_all (λ l. known_from (length (state (take p m)).built.types) (new_types (state (take p m)) l) i) m p h

module _ (m : List Record) (p : ℕ) (h : p < length m) (a : Accepted start m) where
  ok : is_ok (admitted (state (take p m)) (get_or m p [])) ≡ true
  ok = accepted_here m p h a

  known_split : (i : Item) → known_at m p i ≡ known_from (length (state (take p m)).built.types) (own (table_at m p) (item_at m p) ++ new_types (state (take (p + 1) m)) (drop (p + 1) m)) i
  known_split i =
      at_drop_more (λ l. known_from (length (state (take p m)).built.types) (new_types (state (take p m)) l) i) m p [] h
      ∙ ap (λ t. known_from (length (state (take p m)).built.types) (own (table_at m p) (item_at m p) ++ new_types t (drop (p + 1) m)) i) (sym (state_more m p h))

  types_more : (state (take (p + 1) m)).built.types ≡ (state (take p m)).built.types ++ own (table_at m p) (item_at m p)
  types_more = ap (λ t. t.built.types) (state_more m p h) ∙ types_step (state (take p m)) (get_or m p []) ok

  waiting_more : (state (take (p + 1) m)).waiting ≡ gathered (table_at m p) (state (take p m)).waiting (get_or m p [])
  waiting_more = ap (λ t. t.waiting) (state_more m p h) ∙ waiting_step (state (take p m)) (get_or m p []) ok

  image_next : length (image (take (p + 1) m)) ≡ length (image (take p m)) + length (get_or m p [])
  image_next = ap (λ t. length (image t)) (take_more m p [] h) ∙ image_more (take p m) (get_or m p [])

  -- a record of another table
  pub passed : (i : Item) → (table_at m p ≡ table.Types → ⊥) → known_at m (p + 1) i ≡ known_at m p i
  passed i other =
      let none : own (table_at m p) (item_at m p) ≡ [] = own_none (table_at m p) (item_at m p) other in
      let count : length (state (take (p + 1) m)).built.types ≡ length (state (take p m)).built.types = ap length (types_more ∙ ap (λ l. (state (take p m)).built.types ++ l) none ∙ append-nil (state (take p m)).built.types) in
      ap (λ n. known_from n (new_types (state (take (p + 1) m)) (drop (p + 1) m)) i) count
      ∙ sym (known_split i ∙ ap (λ l. known_from (length (state (take p m)).built.types) (l ++ new_types (state (take (p + 1) m)) (drop (p + 1) m)) i) none)

  type_split : (i : Item) → table_at m p ≡ table.Types → known_at m p i ≡ cond (equal_items (item_at m p) i) (Some (length (state (take p m)).built.types)) (known_from (length (state (take p m)).built.types + 1) (new_types (state (take (p + 1) m)) (drop (p + 1) m)) i)
  type_split i is = known_split i ∙ ap (λ t. known_from (length (state (take p m)).built.types) (own t (item_at m p) ++ new_types (state (take (p + 1) m)) (drop (p + 1) m)) i) is

  -- a type that is another
  pub differs : (i : Item) → table_at m p ≡ table.Types → equal_items (item_at m p) i ≡ false → known_at m (p + 1) i ≡ known_at m p i
  differs i is apart =
      let count : length (state (take (p + 1) m)).built.types ≡ length (state (take p m)).built.types + 1 = ap length (types_more ∙ ap (λ t. (state (take p m)).built.types ++ own t (item_at m p)) is) ∙ length-append (state (take p m)).built.types (item_at m p ∷ []) in
      ap (λ n. known_from n (new_types (state (take (p + 1) m)) (drop (p + 1) m)) i) count ∙ sym (type_split i is ∙ cond-false _ _ _ apart)

  -- a type that is this one
  pub agrees : (i : Item) → table_at m p ≡ table.Types → equal_items (item_at m p) i ≡ true → known_at m p i ≡ Some (length (state (take p m)).built.types)
  agrees i is same = type_split i is ∙ cond-true _ _ _ same

  pub taking_joined : (from : ℕ) → table_at m p ≡ table.Taken → TakingAt m p from → TakingAt m (p + 1) from
  taking_joined from is t =
      let w : (state (take (p + 1) m)).waiting ≡ (state (take p m)).waiting ++ get_or m p [] ∷ [] = waiting_more ∙ ap (λ u. gathered u (state (take p m)).waiting (get_or m p [])) is in
      let e : length (image (state (take (p + 1) m)).waiting) ≡ length (image (state (take p m)).waiting) + length (get_or m p []) = ap (λ l. length (image l)) w ∙ image_more (state (take p m)).waiting (get_or m p []) in
      let n = image_next in
      omega arith

  pub taking_anew : (end : ℕ) → (table_at m p ≡ table.Taken → ⊥) → end ≡ length (image (take (p + 1) m)) → TakingAt m (p + 1) end
  taking_anew end other is =
      let w : (state (take (p + 1) m)).waiting ≡ [] = waiting_more ∙ gathered_none (table_at m p) (state (take p m)).waiting (get_or m p []) other in
      let e : length (image (state (take (p + 1) m)).waiting) ≡ 0 = ap (λ l. length (image l)) w in
      omega arith

  before_is : Fronted (take p m) (state (take p m))
  before_is = fronted_so (take p m) (accepted_front start (take p m) (drop p m) (subst (Accepted start) (sym (take-append-drop p m)) a))

  item_parts : before_is.front ++ (((state (take p m)).waiting ++ get_or m p [] ∷ []) ++ drop (p + 1) m) ≡ m
  item_parts =
      ap (λ l. before_is.front ++ l) (append_assoc (state (take p m)).waiting (get_or m p [] ∷ []) (drop (p + 1) m))
      ∙ sym (append_assoc before_is.front (state (take p m)).waiting (get_or m p [] ∷ drop (p + 1) m))
      ∙ ap (λ l. l ++ (get_or m p [] ∷ drop (p + 1) m)) before_is.parts
      ∙ around m p h

  pub item_sound : AllByRecursion Sound ((item_at m p).taken ++ (item_at m p).bytes ∷ [])
  item_sound = all_front ((state (take p m)).waiting ++ get_or m p [] ∷ []) (drop (p + 1) m) (all_back before_is.front (((state (take p m)).waiting ++ get_or m p [] ∷ []) ++ drop (p + 1) m) (subst (AllByRecursion Sound) (sym item_parts) (all_sound start m a)))

  front_length : (from : ℕ) → TakingAt m p from → from ≡ length (image before_is.front)
  front_length from t =
      let e = ap (λ l. length (image l)) before_is.parts in
      let f = ap length (image_append before_is.front (state (take p m)).waiting) ∙ length-append (image before_is.front) (image (state (take p m)).waiting) in
      omega arith

  item_end : length (image (take (p + 1) m)) ≡ length (image (before_is.front ++ ((state (take p m)).waiting ++ get_or m p [] ∷ [])))
  item_end = ap (λ l. length (image l)) (take_more m p [] h ∙ ap (λ l. l ++ get_or m p [] ∷ []) (sym before_is.parts) ∙ append_assoc before_is.front (state (take p m)).waiting (get_or m p [] ∷ []))

  -- the block of the item at a place, as the memory has it
  pub item_block : {d : Counts} {bytes : List ℕ} {slots : List Slot} → Holds d bytes slots m → (from end : ℕ) → TakingAt m p from → end ≡ length (image (take (p + 1) m)) → between from end bytes ≡ block_of (item_at m p)
  item_block {bytes = bytes} holds from end t is =
      ap (λ n. between n end bytes) (front_length from t) ∙ ap (λ n. between (length (image before_is.front)) n bytes) (is ∙ item_end)
      ∙ block_is holds before_is.front ((state (take p m)).waiting ++ get_or m p [] ∷ []) (drop (p + 1) m) item_parts

-- the search so far: what is known from a place on, and where the item there begins
abbrev pub Searched : List Record → Record → ℕ → ℕ → Type 0
Searched m r p from = (known_at m p (item_of (state m) r) ≡ known (state m) r) × TakingAt m p from

-- the search at a slot: what is known before it, and where its record ends
pub record Reached (d : Counts) (bytes : List ℕ) (slots : List Slot) (m : List Record) (ss : List Slot) (p : ℕ) (r : Record) (from end : ℕ) : Type 0 where
  pub holds : Holds d bytes slots m
  pub slots_are : ss ≡ layout m
  pub before : p < length ss
  pub so_far : Searched m r p from
  pub end_is : end ≡ length (image (take (p + 1) m))

module _ {d : Counts} {bytes : List ℕ} {slots : List Slot} {m : List Record} {ss : List Slot} {p : ℕ} {r : Record} {from end : ℕ} (at : Reached d bytes slots m ss p r from end) where
  inside : p < length m
  inside = subst (λ n. p < n) (ap length at.slots_are ∙ length_layout start m) at.before

  pub from_end : from ≤ end
  from_end = let n = image_next m p inside at.holds.accepted in let t = at.so_far.1 in omega arith

  -- what the code compares is whether the items are equal
  pub same_block : Sound r → (w : List ℕ) → w ≡ image (state m).waiting → (b : Bool) → Decides b (between from end bytes ≡ w ++ r) → equal_items (item_at m p) (item_of (state m) r) ≡ b
  same_block sound w w_is b decides =
      let f = fronted_so m at.holds.accepted in
      let waiting_sound : AllByRecursion Sound (state m).waiting = all_back f.front (state m).waiting (subst (AllByRecursion Sound) (sym f.parts) (all_sound start m at.holds.accepted)) in
      let other : w ++ r ≡ block_of (item_of (state m) r) = ap (λ x. x ++ r) w_is ∙ sym (image_push (state m).waiting r) in
      let here : between from end bytes ≡ block_of (item_at m p) = item_block m p inside at.holds.accepted at.holds from end at.so_far.1 at.end_is in
      let e = blocks_decide (item_at m p) (item_of (state m) r) (item_sound m p inside at.holds.accepted) (All-push Sound (state m).waiting r waiting_sound sound) in
      same_from_decides _ b e ((λ x. sym here ∙ decides.0 x ∙ other), (λ x. decides.1 (here ∙ x ∙ sym other)))

  -- the slot that the code reads at the place
  module _ (e : Slot) where
    abbrev slot : Slot
    slot = get_or ss p e

    slot_is : slot ≡ slot_of (state (take p m)) (get_or m p [])
    slot_is = slot_there at.holds at.slots_are p e at.before

    table_here : (t : SlotTable) → slot.table ≡ t → table_at m p ≡ t
    table_here t is = ap (λ s. s.table) (sym slot_is) ∙ is

    pub found_here : slot.table ≡ table.Types → equal_items (item_at m p) (item_of (state m) r) ≡ true → Some slot.number ≡ known (state m) r
    found_here typed same =
        let number : slot.number ≡ length (state (take p m)).built.types = ap (λ s. s.number) slot_is ∙ ap (λ t. number_of_next t (state (take p m))) (table_here table.Types typed) in
        ap Some number ∙ sym (agrees m p inside at.holds.accepted (item_of (state m) r) (table_here table.Types typed) same) ∙ at.so_far.0

    pub past_joined : (next : ℕ) → next ≡ from → slot.table ≡ table.Taken → Searched m r (p + 1) next
    past_joined next is joined =
        let here = table_here table.Taken joined in
        let not_type : table_at m p ≡ table.Types → ⊥ = λ e. let z : table.Taken ≡ table.Types = sym here ∙ e in let y : ◌≡◌ {A = ℕ} 0 1 = cc in omega arith in
        (passed m p inside at.holds.accepted (item_of (state m) r) not_type ∙ at.so_far.0, subst (TakingAt m (p + 1)) (sym is) (taking_joined m p inside at.holds.accepted from here at.so_far.1))

    pub past_type : (next : ℕ) → next ≡ end → slot.table ≡ table.Types → equal_items (item_at m p) (item_of (state m) r) ≡ false → Searched m r (p + 1) next
    past_type next is typed apart =
        let here = table_here table.Types typed in
        let not_taken : table_at m p ≡ table.Taken → ⊥ = λ e. let z : table.Types ≡ table.Taken = sym here ∙ e in let y : ◌≡◌ {A = ℕ} 0 1 = cc in omega arith in
        (differs m p inside at.holds.accepted (item_of (state m) r) here apart ∙ at.so_far.0, taking_anew m p inside at.holds.accepted next not_taken (is ∙ at.end_is))

    pub past_other : (next : ℕ) → next ≡ end → (slot.table ≡ table.Taken → ⊥) → (slot.table ≡ table.Types → ⊥) → Searched m r (p + 1) next
    past_other next is not_taken not_type =
        let same : slot.table ≡ table_at m p = ap (λ s. s.table) slot_is in
        (passed m p inside at.holds.accepted (item_of (state m) r) (λ e. not_type (same ∙ e)) ∙ at.so_far.0, taking_anew m p inside at.holds.accepted next (λ e. not_taken (same ∙ e)) (is ∙ at.end_is))
