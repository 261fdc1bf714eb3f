-- Items place by place.
use Rattle.std.proofs.Common.{◌≡◌, ℕ, suc, ◌+◌, ◌-◌, ◌<◌, ◌≤◌, Bool, true, false, cond, List, [], ◌∷◌, ◌++◌, length, get_or, take, drop, min, Some, fold, sym, refl, ap, ◌∙◌, append-nil, arith, subst, take-append-drop}
use Rattle.std.specs.List.{slice_get}
use Rattle.std.proofs.lemmas.List.{at_drop_more, at_drop_all, get_or-take, length-take-le, length-take, length-drop, drop-take, drop-drop, length_push, take_min}
use Rattle.std.proofs.Math.Seq.{take-add}
use Rattle.std.proofs.lemmas.List.Sums.{fold-append}
use Rattle.std.proofs.lemmas.Option.{slice_get_within, get_or_from_slice_get}
use Rattle.std.proofs.lemmas.Bool.{cond-true, cond-false}
use Rattle.rules.specs.Module.{Record}
use Rattle.draft.specs.State.{State, start, step, state, item_of}
use Rattle.draft.specs.Admitted.{Accepted}
use Rattle.draft.proofs.Stepping.{counted_so, accepted_front}
use Rattle.arena.specs.declared.slot.Slot.{Slot}
use Rattle.arena.proofs.Finding.{state_more}
use Rattle.items.specs.declared.section.Section.{Section}
use Rattle.items.specs.Sections.{chosen, selects}
use Rattle.items.specs.Between.{EntryAt, item_at, gained, items_between}

within_next : {X : Type 0} (m : List X) (x : ℕ) (r : X) → slice_get m x ≡ Some r → x + 1 ≤ length m
within_next m x r e = let l = slice_get_within m x r e in omega arith

-- accepted records have accepted fronts
pub front : (m : List Record) (x : ℕ) → Accepted start m → Accepted start (take x m)
front m x a = accepted_front start (take x m) (drop x m) (subst (Accepted start) (sym (take-append-drop x m)) a)

-- as many records stand before a place as its number says
pub kept_at : (m : List Record) (x : ℕ) → Accepted start m → x ≤ length m → (state (take x m)).kept ≡ x
kept_at m x a l = (counted_so (take x m) (front m x a)).kept_is ∙ length-take-le x m l

-- the state after the record at a place
pub state_next : (m : List Record) (x : ℕ) (r : Record) → slice_get m x ≡ Some r → state (take (x + 1) m) ≡ step (state (take x m)) r
state_next m x r e = state_more m x (slice_get_within m x r e) ∙ ap (step (state (take x m))) (get_or_from_slice_get m x r [] e)

module _ (sec : Section) (m : List Record) (a : Accepted start m) (x to : ℕ) (r : Record) (e : slice_get m x ≡ Some r) (l : x < to) (t : to ≤ length m) where
  pub item_is : item_of (state (take x m)) r ≡ item_at m x r
  item_is = let k = kept_at m x a (omega arith) in ap (λ p. record { place = p; bytes = r; taken = (state (take x m)).waiting }) k

  -- the item of the record at a place, if it makes one, and those behind it
  pub split : items_between sec m x to ≡ cond (selects sec (state (take x m)) r) (item_at m x r ∷ items_between sec m (x + 1) to) (items_between sec m (x + 1) to)
  unfolding items_between
  split =
      let n = length-take-le to m t in
      let g : get_or (take to m) x [] ≡ r = get_or-take to m x [] l ∙ get_or_from_slice_get m x r [] e in
      at_drop_more (gained sec (state (take x m))) (take to m) x [] (omega arith)
      ∙ ap (λ y. gained sec (state (take x m)) (y ∷ drop (x + 1) (take to m))) g
      ∙ ap (λ s. cond (selects sec (state (take x m)) r) (item_of (state (take x m)) r ∷ gained sec s (drop (x + 1) (take to m))) (gained sec s (drop (x + 1) (take to m)))) (sym (state_next m x r e))
      ∙ ap (λ i. cond (selects sec (state (take x m)) r) (i ∷ gained sec (state (take (x + 1) m)) (drop (x + 1) (take to m))) (gained sec (state (take (x + 1) m)) (drop (x + 1) (take to m)))) item_is

  module _ (slot : Slot) (at : EntryAt m x slot r) where
    choice : (b : Bool) → chosen sec slot.table r ≡ b → selects sec (state (take x m)) r ≡ b
    choice b c = sym (ap (λ s. chosen sec s.table r) at.slot_is) ∙ c

    -- the record at the place makes an item of the section, or does not
    pub hit : chosen sec slot.table r ≡ true → items_between sec m x to ≡ item_at m x r ∷ items_between sec m (x + 1) to
    hit c = split ∙ cond-true _ _ _ (choice true c)

    pub miss : chosen sec slot.table r ≡ false → items_between sec m x to ≡ items_between sec m (x + 1) to
    miss c = split ∙ cond-false _ _ _ (choice false c)

pub none_between : (sec : Section) (m : List Record) (x to : ℕ) → to ≤ x → items_between sec m x to ≡ []
unfolding items_between
none_between sec m x to l = let n = length-take to m in at_drop_all (gained sec (state (take x m))) (take to m) x (omega arith)

kept_in_front : {X : Type 0} (i : X) (all front rest : List X) (b : Bool) → all ≡ front ++ rest → cond b (i ∷ all) all ≡ cond b (i ∷ front) front ++ rest
kept_in_front i all front rest true e = ap (λ l. i ∷ l) e
kept_in_front i all front rest false e = e

-- items of records that follow one another
gained_append : (sec : Section) (s : State) (xs ys : List Record) → gained sec s (xs ++ ys) ≡ gained sec s xs ++ gained sec (fold step s xs) ys
gained_append sec s [] ys = refl
gained_append sec s (r ∷ xs) ys = kept_in_front _ _ _ _ (selects sec s r) (gained_append sec (step s r) xs ys)

state_on : (m : List Record) (from n : ℕ) → state (take (from + n) m) ≡ fold step (state (take from m)) (take n (drop from m))
unfolding state
state_on m from n = ap (fold step start) (take-add from n m) ∙ fold-append step start (take from m) (take n (drop from m))

-- the same, of the records between places
between_parts : (sec : Section) (m : List Record) (from n k : ℕ) → items_between sec m from (from + (n + k)) ≡ items_between sec m from (from + n) ++ items_between sec m (from + n) (from + n + k)
unfolding items_between
between_parts sec m from n k =
    let s = state (take from m) in
    let xs = take n (drop from m) in
    let ys = take k (drop n (drop from m)) in
    let rest : drop (from + n) (take (from + n + k) m) ≡ ys = drop-take (from + n) k m ∙ ap (take k) (sym (drop-drop n from m)) in
    ap (gained sec s) (drop-take from (n + k) m ∙ take-add n k (drop from m))
    ∙ gained_append sec s xs ys
    ∙ ap (λ l. gained sec s l ++ gained sec (fold step s xs) ys) (sym (drop-take from n m))
    ∙ ap (λ u. gained sec s (drop from (take (from + n) m)) ++ gained sec u ys) (sym (state_on m from n))
    ∙ ap (λ l. gained sec s (drop from (take (from + n) m)) ++ gained sec (state (take (from + n) m)) l) (sym rest)

-- the items up to a place in the midst, and those from there on
pub between_append : (sec : Section) (m : List Record) (a : Accepted start m) (from x to : ℕ) → from ≤ x → x ≤ to → to ≤ length m → items_between sec m from to ≡ items_between sec m from x ++ items_between sec m x to
between_append sec m a from x to l u t =
    let n : from + (x - from) ≡ x = omega arith in
    let k : x + (to - x) ≡ to = omega arith in
    let w : from + ((x - from) + (to - x)) ≡ to = omega arith in
    let p = between_parts sec m from (x - from) (to - x) in
    simp (n, k, w) at p

-- how many items there are before the next place
module _ (sec : Section) (m : List Record) (a : Accepted start m) (from x : ℕ) (b : from ≤ x) (r : Record) (e : slice_get m x ≡ Some r) (slot : Slot) (at : EntryAt m x slot r) where
  pub count_hit : chosen sec slot.table r ≡ true → length (items_between sec m from (x + 1)) ≡ suc (length (items_between sec m from x))
  count_hit c =
      let p = between_append sec m a from x (x + 1) b (omega arith) (within_next m x r e) in
      let h = hit sec m a x (x + 1) r e (omega arith) (within_next m x r e) slot at c in
      let n = none_between sec m (x + 1) (x + 1) (omega arith) in
      let q = ap length (p ∙ ap (λ l. items_between sec m from x ++ l) (h ∙ ap (λ l. item_at m x r ∷ l) n)) ∙ length_push (items_between sec m from x) (item_at m x r) in omega arith

  pub count_miss : chosen sec slot.table r ≡ false → length (items_between sec m from (x + 1)) ≡ length (items_between sec m from x)
  count_miss c =
      let p = between_append sec m a from x (x + 1) b (omega arith) (within_next m x r e) in
      let h = miss sec m a x (x + 1) r e (omega arith) (within_next m x r e) slot at c in
      let n = none_between sec m (x + 1) (x + 1) (omega arith) in
      ap length (p ∙ ap (λ l. items_between sec m from x ++ l) (h ∙ n)) ∙ ap length (append-nil (items_between sec m from x))

-- past the last record there are none
pub between_all : (sec : Section) (m : List Record) (x to : ℕ) → items_between sec m x (min to (length m)) ≡ items_between sec m x to
unfolding items_between
between_all sec m x to = ap (λ l. gained sec (state (take x m)) (drop x l)) (take_min to m)

pub one_more : {X : Type 0} (b : Bool) (x : X) (xs : List X) (n : ℕ) → length xs ≤ n → length (cond b (x ∷ xs) xs) ≤ suc n
one_more true x xs n l = omega arith
one_more false x xs n l = omega arith

gained_few : (sec : Section) (s : State) (m : List Record) → length (gained sec s m) ≤ length m
gained_few sec s [] = omega arith
gained_few sec s (r ∷ m) = one_more (selects sec s r) (item_of s r) (gained sec (step s r) m) (length m) (gained_few sec (step s r) m)

-- there are no more items than places
pub few_between : (sec : Section) (m : List Record) (x to : ℕ) → length (items_between sec m x to) ≤ to
unfolding items_between
few_between sec m x to =
    omega (arith, gained_few sec (state (take x m)) (drop x (take to m)), length-drop x (take to m), length-take to m)
