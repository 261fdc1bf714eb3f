-- What waits before a record: the records right before it that are to be taken.
use Rattle.std.proofs.Common.{◌≡◌, ℕ, zero, suc, ◌+◌, ◌-◌, ◌≤◌, Bool, true, false, cond, List, [], ◌∷◌, ◌++◌, length, reverse, take, drop, sym, refl, ap, ◌∙◌, arith, append_assoc, take-append-drop, subst, length-append}
use Rattle.std.specs.List.{between, prefix_len}
use Rattle.std.proofs.lemmas.List.{length_push, reverse-append}
use Rattle.std.proofs.lemmas.List.{take_at, length-take-le}
use Rattle.std.proofs.lemmas.List.Folds.{length-prefix_len}
use Rattle.ir.specs.declared.kinds.Kind.{Kind}
use Rattle.records.specs.Record.{judged}
use Rattle.rules.specs.Module.{Record}
use Rattle.draft.specs.declared.state.SlotTable.TheVariants as table
use Rattle.draft.specs.declared.counts.Counts.{Counts}
use Rattle.draft.specs.State.{State, start, step, stepped, state, table_in}
use Rattle.draft.specs.Admitted.{Accepted, image}
use Rattle.draft.specs.Manner.{manner_of}
use Rattle.draft.proofs.Stepping.{Admits, throughout, state_push, step_is, accepted_front, image_append}
use Rattle.draft.proofs.Fronts.{Fronted, fronted_so}
use Rattle.arena.specs.declared.slot.Slot.{Slot}
use Rattle.arena.specs.Memory.{layout_from, layout, slot_of, table_judged, Holds}
use Rattle.arena.specs.Viewing.{same_table}
use Rattle.arena.proofs.Placing.{layout_more, block_is}
use Rattle.arena.proofs.Finding.{waiting_at}

abbrev pub is_taken : Slot → Bool
is_taken s = same_table table.Taken s.table

record Trailing (m : List Record) (s : State) : Type 0 where
  is : state m ≡ s
  count : prefix_len is_taken (reverse (layout m)) ≡ length s.waiting

gathered_count : (b : Bool) (n : ℕ) (ws : List Record) (r : Record) → n ≡ length ws → cond b (1 + n) 0 ≡ length (cond b (ws ++ r ∷ []) [])
gathered_count true n ws r e = let l = length_push ws r in omega arith
gathered_count false n ws r e = refl

trailing_more : (m : List Record) (s : State) (r : Record) (k : Kind) → Admits s r k → Trailing m s → Trailing (m ++ r ∷ []) (stepped k r s)
trailing_more m s r k a t =
    let slot = slot_of (state m) r in
    let turned : reverse (layout (m ++ r ∷ [])) ≡ slot ∷ reverse (layout m) = ap reverse (sym (layout_more m r)) ∙ reverse-append (layout m) (slot ∷ []) in
    let same : slot.table ≡ table_in s.opened (manner_of k).table = ap (λ u. table_judged u (judged r)) t.is ∙ ap (table_judged s) a.kind_is in
    record {
      is = state_push m r ∙ ap (λ u. step u r) t.is ∙ step_is s r k a.kind_is;
      count =
          ap (prefix_len is_taken) turned
          ∙ ap (λ u. cond (same_table table.Taken u) (1 + prefix_len is_taken (reverse (layout m))) 0) same
          ∙ gathered_count (same_table table.Taken (table_in s.opened (manner_of k).table)) (prefix_len is_taken (reverse (layout m))) s.waiting r t.count
          ∙ ap length (sym (waiting_at k s.opened s.waiting r));
    }

trailing_none : Trailing [] start
unfolding state
trailing_none = record { is = refl; count = refl }

-- as many wait as there are records to be taken at the end of the slots
pub trailing_count : (m : List Record) → Accepted start m → prefix_len is_taken (reverse (layout m)) ≡ length (state m).waiting
trailing_count m a = (throughout Trailing trailing_more m a trailing_none).count

layout_front : (s : State) (m : List Record) (p : ℕ) → take p (layout_from s m) ≡ layout_from s (take p m)
layout_front s m zero = refl
layout_front s [] (suc p) = refl
layout_front s (r ∷ m) (suc p) = ap (λ l. slot_of s r ∷ l) (layout_front (step s r) m p)

front : (m : List Record) (p : ℕ) → Accepted start m → Accepted start (take p m)
front m p a = accepted_front start (take p m) (drop p m) (subst (Accepted start) (sym (take-append-drop p m)) a)

-- the same among the slots before a place
pub waiting_counted : (m : List Record) (p : ℕ) (slots : List Slot) → Accepted start m → slots ≡ take p (layout m) → length (take (prefix_len is_taken (reverse slots)) (reverse slots)) ≡ length (state (take p m)).waiting
waiting_counted m p slots a e =
    length-prefix_len is_taken (reverse slots)
    ∙ ap (λ l. prefix_len is_taken (reverse l)) (e ∙ layout_front start m p)
    ∙ trailing_count (take p m) (front m p a)

-- what waits before a place, as the memory has it
module _ {d : Counts} {bytes : List ℕ} {slots : List Slot} {m : List Record} (h : Holds d bytes slots m) (p : ℕ) (l : p ≤ length m) where
  fronted : Fronted (take p m) (state (take p m))
  fronted = fronted_so (take p m) (front m p h.accepted)

  waits : length fronted.front + length (state (take p m)).waiting ≡ p
  waits = sym (length-append fronted.front (state (take p m)).waiting) ∙ ap length fronted.parts ∙ length-take-le p m l

  pub waiting_within : length (state (take p m)).waiting ≤ p
  waiting_within = let w = waits in omega arith

  pub waiting_block : (from to : ℕ) → from ≡ length (image (take (p - length (state (take p m)).waiting) m)) → to ≡ length (image (take p m)) → (from ≤ to) × (between from to bytes ≡ image (state (take p m)).waiting)
  waiting_block from to e f =
      let ws = (state (take p m)).waiting in
      let whole : fronted.front ++ (ws ++ drop p m) ≡ m = sym (append_assoc fronted.front ws (drop p m)) ∙ ap (λ l. l ++ drop p m) fronted.parts ∙ take-append-drop p m in
      let size : length fronted.front ≡ p - length ws = let w = waits in omega arith in
      let begin : take (p - length ws) m ≡ fronted.front = ap (take (p - length ws)) (sym whole) ∙ take_at fronted.front (ws ++ drop p m) (p - length ws) size in
      let a : from ≡ length (image fronted.front) = e ∙ ap (λ l. length (image l)) begin in
      let b : to ≡ length (image (fronted.front ++ ws)) = f ∙ ap (λ l. length (image l)) (sym fronted.parts) in
      let grows : length (image (fronted.front ++ ws)) ≡ length (image fronted.front) + length (image ws) = ap length (image_append fronted.front ws) ∙ length-append (image fronted.front) (image ws) in
      (simp (a, b) (omega arith), ap (λ n. between n to bytes) a ∙ ap (λ n. between (length (image fronted.front)) n bytes) b ∙ block_is h fronted.front ws (drop p m) whole)
