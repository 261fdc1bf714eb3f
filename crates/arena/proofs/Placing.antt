-- What stands where in the memory of a draft.
use Rattle.std.proofs.Common.{◌≡◌, ℕ, zero, suc, ◌+◌, ◌-◌, ◌<◌, ◌≤◌, true, List, [], ◌∷◌, ◌++◌, length, get_or, take, drop, set, is_ok, fold, sym, refl, ap, ◌∙◌, subst, append_assoc, append-nil, arith, length-append, length-drop, length-take}
use Rattle.std.specs.List.{between}
use Rattle.std.proofs.lemmas.List.{take_at, take_all, drop_at, take_more_set, take-append-drop, take_more, drop_more}
use Rattle.ir.specs.declared.kinds.Kind.{Kind}
use Rattle.draft.specs.Admitted.{Accepted, admitted, image}
use Rattle.arena.specs.declared.Draft.{Draft}
use Rattle.arena.specs.declared.slot.Slot.{Slot}
use Rattle.draft.specs.declared.counts.Counts.{Counts}
use Rattle.draft.specs.Manner.{manner_of}
use Rattle.rules.specs.Module.{Record}
use Rattle.draft.specs.State.{State, start, step, state, table_of}
use Rattle.draft.specs.Counting.{counts_of, advanced}
use Rattle.arena.specs.Memory.{Stands, Free, table_judged, slot_in, slot_of, layout_from, layout, Holds, next_start, cuts, read_off, Standing}
use Rattle.draft.proofs.Stepping.{Admits, step_is, state_push, accepted_more, accepted_front, admitted_kind, image_append, image_push, image_more, Counted, counted_so}
use Rattle.draft.proofs.Tallying.{counts_after}

pub layout_push : (s : State) (m : List Record) (r : Record) → layout_from s (m ++ r ∷ []) ≡ layout_from s m ++ slot_of (fold step s m) r ∷ []
layout_push s [] r = refl
layout_push s (x ∷ m) r = ap (λ l. slot_of s x ∷ l) (layout_push (step s x) m r)

pub layout_more : (m : List Record) (r : Record) → layout m ++ slot_of (state m) r ∷ [] ≡ layout (m ++ r ∷ [])
unfolding state
layout_more m r = sym (layout_push start m r)

pub layout_at : (s : State) (m : List Record) (p : ℕ) (d : Slot) → p < length m → get_or (layout_from s m) p d ≡ slot_of (fold step s (take p m)) (get_or m p [])
layout_at s [] p d h = absurd (omega arith)
layout_at s (x ∷ m) zero d h = refl
layout_at s (x ∷ m) (suc p) d h = layout_at (step s x) m p d (omega arith)

pub length_layout : (s : State) (m : List Record) → length (layout_from s m) ≡ length m
length_layout s [] = refl
length_layout s (x ∷ m) = ap suc (length_layout (step s x) m)

-- a run of records among others stands as one block of bytes
pub block : (a b c : List Record) (post : List ℕ) → between (length (image a)) (length (image (a ++ b))) (image (a ++ (b ++ c)) ++ post) ≡ image b
block a b c post =
    let whole : image (a ++ (b ++ c)) ++ post ≡ image a ++ (image b ++ (image c ++ post)) = ap (λ l. l ++ post) (image_append a (b ++ c) ∙ ap (λ l. image a ++ l) (image_append b c)) ∙ append_assoc (image a) (image b ++ image c) post ∙ ap (λ l. image a ++ l) (append_assoc (image b) (image c) post) in
    let size : length (image (a ++ b)) - length (image a) ≡ length (image b) = let e = ap length (image_append a b) ∙ length-append (image a) (image b) in omega arith in
    ap (λ l. between (length (image a)) (length (image (a ++ b))) l) whole
    ∙ ap (λ l. take (length (image (a ++ b)) - length (image a)) l) (drop_at (image a) (image b ++ (image c ++ post)) (length (image a)) refl)
    ∙ ap (λ n. take n (image b ++ (image c ++ post))) size
    ∙ take_at (image b) (image c ++ post) (length (image b)) refl

-- the end of the first record is the start of the next
next_is : (s : State) (m : List Record) → next_start (layout_from s m) (s.used + length (image m)) ≡ s.used
next_is s [] = omega arith
next_is s (r ∷ m) = refl

used_after : (s : State) (r : Record) → is_ok (admitted s r) ≡ true → (step s r).used ≡ s.used + length r
used_after s r h = let p = admitted_kind s r h in ap (λ t. t.used) (step_is s r p.0 p.1.kind_is)

pub cuts_are : (s : State) (before m : List Record) (post : List ℕ) → Accepted s m → s.used ≡ length (image before) → cuts (layout_from s m) (length (image (before ++ m))) (image (before ++ m) ++ post) ≡ m
cuts_are s before [] post a u = refl
cuts_are s before (r ∷ m) post a u =
    let grown : before ++ (r ∷ m) ≡ (before ++ r ∷ []) ++ m = sym (append_assoc before (r ∷ []) m) in
    let used : (step s r).used ≡ length (image (before ++ r ∷ [])) = used_after s r a.0 ∙ ap (λ n. n + length r) u ∙ sym (image_more before r) in
    let all : length (image (before ++ (r ∷ m))) ≡ (step s r).used + length (image m) = ap (λ l. length (image l)) grown ∙ ap length (image_append (before ++ r ∷ []) m) ∙ length-append (image (before ++ r ∷ [])) (image m) ∙ ap (λ n. n + length (image m)) (sym used) in
    let end : next_start (layout_from (step s r) m) (length (image (before ++ (r ∷ m)))) ≡ length (image (before ++ r ∷ [])) = ap (next_start (layout_from (step s r) m)) all ∙ next_is (step s r) m ∙ used in
    let here : between s.used (next_start (layout_from (step s r) m) (length (image (before ++ (r ∷ m))))) (image (before ++ (r ∷ m)) ++ post) ≡ r = ap (λ n. between n (next_start (layout_from (step s r) m) (length (image (before ++ (r ∷ m))))) (image (before ++ (r ∷ m)) ++ post)) u ∙ ap (λ n. between (length (image before)) n (image (before ++ (r ∷ m)) ++ post)) end ∙ block before (r ∷ []) m post ∙ append-nil r in
    let rest : cuts (layout_from (step s r) m) (length (image (before ++ (r ∷ m)))) (image (before ++ (r ∷ m)) ++ post) ≡ m = ap (λ l. cuts (layout_from (step s r) m) (length (image l)) (image l ++ post)) grown ∙ cuts_are (step s r) (before ++ r ∷ []) m post a.1 used in
    cc

-- the record at a place, between those before it and those after it
pub around : (m : List Record) (p : ℕ) → p < length m → take p m ++ (get_or m p [] ∷ drop (p + 1) m) ≡ m
around m p h = ap (λ l. take p m ++ l) (sym (drop_more m p [] h)) ∙ take-append-drop p m

pub holds_none : (bytes : List ℕ) (slots : List Slot) → Holds (counts_of start) bytes slots []
unfolding state
holds_none bytes slots = record { counts_are = refl; bytes_are = refl; slots_are = refl; accepted = tt }

module _ {d : Counts} {bytes : List ℕ} {slots : List Slot} {m : List Record} (h : Holds d bytes slots m) where
  pub counted_now : Counted m (state m)
  counted_now = counted_so m h.accepted

  pub used_is : d.used ≡ length (image m)
  used_is = ap (λ e. e.used) h.counts_are ∙ counted_now.used_is

  pub kept_is : d.kept ≡ length m
  kept_is = ap (λ e. e.kept) h.counts_are ∙ counted_now.kept_is

  pub depth_within : d.brackets.depth ≤ 64
  depth_within = let e = ap (λ e. e.brackets.depth) h.counts_are in let f = counted_now.deep in omega arith

  pub used_within : d.used ≤ length bytes
  used_within = let e = length-take d.used bytes in let a = ap length h.bytes_are in let u = used_is in omega arith

  pub kept_within : d.kept ≤ length slots
  kept_within = let e = length-take d.kept slots in let a = ap length h.slots_are in let l = length_layout start m in let u = kept_is in omega arith

  pub bytes_split : bytes ≡ image m ++ drop d.used bytes
  bytes_split = sym (take-append-drop d.used bytes) ∙ ap (λ l. l ++ drop d.used bytes) h.bytes_are

  pub records_are : read_off d bytes slots ≡ m
  unfolding read_off
  records_are =
      ap (λ l. cuts l d.used bytes) h.slots_are
      ∙ ap (λ n. cuts (layout m) n bytes) used_is
      ∙ ap (cuts (layout m) (length (image m))) bytes_split
      ∙ cuts_are start [] m (drop d.used bytes) h.accepted refl

  -- what the calls promise of memory that holds these records
  pub stands_now : Standing d bytes slots
  stands_now = subst (Holds d bytes slots) (sym records_are) h

  pub state_at : (p : ℕ) → Counted (take p m) (state (take p m))
  state_at p = counted_so (take p m) (accepted_front start (take p m) (drop p m) (subst (Accepted start) (sym (take-append-drop p m)) h.accepted))

  -- a run of the kept records, as the memory has it
  pub block_is : (a b c : List Record) → a ++ (b ++ c) ≡ m → between (length (image a)) (length (image (a ++ b))) bytes ≡ image b
  block_is a b c e = ap (between (length (image a)) (length (image (a ++ b)))) (bytes_split ∙ ap (λ l. image l ++ drop d.used bytes) (sym e)) ∙ block a b c (drop d.used bytes)

  pub record_is : (p : ℕ) → p < d.kept → between (length (image (take p m))) (length (image (take (p + 1) m))) bytes ≡ get_or m p []
  record_is p l =
      let k : p < length m = subst (λ n. p < n) kept_is l in
      ap (λ t. between (length (image (take p m))) (length (image t)) bytes) (take_more m p [] k)
      ∙ block_is (take p m) (get_or m p [] ∷ []) (drop (p + 1) m) (around m p k)
      ∙ append-nil (get_or m p [])

  pub start_within : (p : ℕ) → length (image (take p m)) ≤ d.used
  start_within p = let e = ap length (image_append (take p m) (drop p m)) ∙ length-append (image (take p m)) (image (drop p m)) in let f = ap (λ l. length (image l)) (take-append-drop p m) in let u = used_is in omega arith

  -- a record begins within what is kept, and so within the bytes
  pub begins_kept : (p : ℕ) {begin : ℕ} → begin ≡ length (image (take p m)) → begin ≤ d.used
  begins_kept p is = let s = start_within p in omega arith

  pub begins_within : (p : ℕ) {begin : ℕ} → begin ≡ length (image (take p m)) → begin ≤ length bytes
  begins_within p is = let k = begins_kept p is in let u = used_within in omega arith

  -- one more record
  pub holds_push : (r : Record) (k : Kind) → Admits (state m) r k → is_ok (admitted (state m) r) ≡ true → d.kept < length slots
      → (bytes' : List ℕ) → take (d.used + length r) bytes' ≡ take d.used bytes ++ r
      → Holds (advanced d (length r) (manner_of k)) bytes' (set slots d.kept (slot_in (state m) (table_of (state m) k))) (m ++ r ∷ [])
  holds_push r k a ok room bytes' copied = record {
    counts_are = ap (λ e. advanced e (length r) (manner_of k)) h.counts_are ∙ sym (counts_after (state m) r k a counted_now.deep) ∙ ap counts_of (sym (state_push m r ∙ step_is (state m) r k a.kind_is));
    bytes_are = copied ∙ ap (λ b. b ++ r) h.bytes_are ∙ sym (image_push m r);
    slots_are = take_more_set slots d.kept (slot_in (state m) (table_of (state m) k)) room ∙ ap (λ b. b ++ slot_in (state m) (table_of (state m) k) ∷ []) h.slots_are ∙ ap (λ t. layout m ++ slot_in (state m) t ∷ []) (sym (ap (table_judged (state m)) a.kind_is)) ∙ layout_more m r;
    accepted = accepted_more m r h.accepted ok;
  }

  pub start_more : (p : ℕ) → p < d.kept → length (image (take (p + 1) m)) ≡ length (image (take p m)) + length (get_or m p [])
  start_more p l = ap (λ t. length (image t)) (take_more m p [] (subst (λ n. p < n) kept_is l)) ∙ image_more (take p m) (get_or m p [])

  -- the slot at a place, and where its record begins
  pub slot_there : {ss : List Slot} → ss ≡ layout m → (p : ℕ) (e : Slot) → p < length ss → get_or ss p e ≡ slot_of (state (take p m)) (get_or m p [])
  unfolding state
  slot_there is p e l = ap (λ s. get_or s p e) is ∙ layout_at start m p e (subst (λ n. p < n) (ap length is ∙ length_layout start m) l)

  pub start_there : {ss : List Slot} → ss ≡ layout m → (p : ℕ) (e : Slot) → p < length ss → (get_or ss p e).start ≡ length (image (take p m))
  start_there is p e l = ap (λ s. s.start) (slot_there is p e l) ∙ (state_at p).used_is

  -- past the last one, the end of what is kept
  pub end_there : {ss : List Slot} → ss ≡ layout m → (p : ℕ) → length ss ≤ p → d.used ≡ length (image (take p m))
  end_there is p l = used_is ∙ ap (λ t. length (image t)) (sym (take_all p m (subst (λ n. n ≤ p) (ap length is ∙ length_layout start m) l)))

  pub record_part : (p a b : ℕ) → p < d.kept → a ≡ length (image (take p m)) → b ≡ length (image (take (p + 1) m)) → between a b bytes ≡ get_or m p []
  record_part p a b l e f = ap (λ n. between n b bytes) e ∙ ap (λ n. between (length (image (take p m))) n bytes) f ∙ record_is p l

-- what the records take and what is free is all that is lent
pub free_now : {d : Draft} {bytes : List ℕ} {slots : List Slot} → Stands d bytes slots → Free d bytes slots
free_now {d} {bytes} {slots} h = record {
  bytes_left = let u = used_is h in let w = used_within h in simp length-drop (omega arith);
  slots_left = let k = kept_is h in let w = kept_within h in simp length-drop (omega arith);
}
