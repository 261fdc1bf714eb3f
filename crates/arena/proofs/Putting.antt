-- What put leaves in memory: one record more, or fewer by those that waited.
use Rattle.std.proofs.Common.{◌≡◌, ℕ, ◌+◌, ◌-◌, ◌<◌, ◌≤◌, true, false, ltb, leb, List, [], ◌∷◌, ◌++◌, length, take, set, is_ok, Some, None, Ok, Err, Option, Result, sym, refl, ap, ◌∙◌, subst, append-nil, arith, length-append}
use Rattle.std.proofs.lemmas.List.{take-take, take_at}
use Rattle.std.proofs.lemmas.Bool.Decides.{nat_tests}
use Rattle.std.proofs.lemmas.Bool.{cond-true, cond-false, and_parts, leb-true, ltb-true}
use Rattle.std.specs.List.{between}
use Rattle.ir.specs.declared.kinds.Kind.{Kind}
use Rattle.records.specs.Record.{judged}
use Rattle.draft.specs.Admitted.{Accepted, admitted, admitted_with, image}
use Rattle.draft.specs.declared.refusal.Refusal.{Refusal}
use Rattle.draft.specs.declared.refusal.Refusal.TheVariants.{Full}
use Rattle.draft.specs.declared.manner.Turn.{Turn}
use Rattle.draft.specs.declared.state.BodyKind.{BodyKind}
use Rattle.draft.specs.declared.state.BodyKind.TheVariants as body_kind
use Rattle.draft.specs.declared.state.SlotTable.{SlotTable}
use Rattle.draft.specs.declared.state.SlotTable.TheVariants as table
use Rattle.arena.specs.declared.slot.Slot.{Slot}
use Rattle.draft.specs.declared.counts.Counts.{Counts}
use Rattle.draft.specs.Manner.{manner_of, turn_of}
use Rattle.rules.specs.Module.{Record}
use Rattle.draft.specs.State.{State, start, step, state, innermost, deepens, table_in, table_of, number_of_next}
use Rattle.draft.specs.Counting.{counts_of, counted, top, advanced, freed}
use Rattle.draft.specs.Stacking.{Turns}
use Rattle.arena.specs.Answer.{Answer, answered}
use Rattle.arena.specs.Put.{has_room, fits, added, known, known_or_added, put_in, put_admitted, put_def}
use Rattle.arena.specs.Memory.{layout_from, layout, Holds, Kept, slot_of, slot_in}
use Rattle.draft.proofs.Stepping.{Admits, admits, accepted_front, image_append}
use Rattle.draft.proofs.Tallying.{top_is, turns_fit, counted_is}
use Rattle.arena.proofs.Placing.{used_is, kept_is, records_are, stands_now, holds_push, counted_now, block_is}
use Rattle.draft.proofs.Fronts.{Fronted, fronted_so, front_is, waiting_within, bare}

layout_front : (s : State) (a b : List Record) → take (length a) (layout_from s (a ++ b)) ≡ layout_from s a
layout_front s [] b = refl
layout_front s (x ∷ a) b = ap (λ l. slot_of s x ∷ l) (layout_front (step s x) a b)

pub room_parts : (room places used kept size n : ℕ) → has_room room places used kept size n ≡ true → (used + size ≤ room) × (kept < places) × (n < 4294967295)
room_parts room places used kept size n e =
    let a = and_parts (leb (used + size) room) _ e in
    let b = and_parts (ltb kept places) (ltb n 4294967295) a.1 in
    (leb-true (used + size) room a.0, ltb-true kept places b.0, ltb-true n 4294967295 b.1)

-- a call that keeps nothing
pub kept_nothing : {d : Counts} {bytes : List ℕ} {slots : List Slot} {m : List Record} → Holds d bytes slots m → {defined : Result Answer Refusal × List Record} (answer : Result Answer Refusal) → defined ≡ (answer, m) → Kept defined answer d bytes slots d bytes slots
kept_nothing h answer is = rw is (record { answers = refl; stands = stands_now h; keeps = records_are h; unchanged = λ _. (refl, refl, refl) })

pub kept_like : {d d' : Counts} {bytes bytes' : List ℕ} {slots slots' : List Slot} {x y : Result Answer Refusal × List Record} {answer : Result Answer Refusal} → x ≡ y → Kept y answer d bytes slots d' bytes' slots' → Kept x answer d bytes slots d' bytes' slots'
kept_like e k = rw e k

module _ {d : Counts} {bytes : List ℕ} {slots : List Slot} {m : List Record} (h : Holds d bytes slots m) where
  pub fronted_now : Fronted m (state m)
  fronted_now = fronted_so m h.accepted

  pub waiting_is : d.waits.count ≡ length (state m).waiting
  waiting_is = ap (λ e. e.waits.count) h.counts_are

  pub waiting_kept : d.waits.count ≤ d.kept
  waiting_kept = let w = waiting_within m (state m) fronted_now in let e = waiting_is in let k = kept_is h in omega arith

  -- the place where what waits begins
  pub place_is : d.kept - d.waits.count ≡ length m - length (state m).waiting
  place_is = let e = waiting_is in let k = kept_is h in omega arith

  -- what the code tests is what is defined
  pub admitted_is : (r : Record) → admitted_with d.waits.pieces d.opened (top d.brackets) d.brackets.depth (judged r) ≡ admitted (state m) r
  admitted_is r =
      ap (λ e. admitted_with e.waits.pieces e.opened (top e.brackets) e.brackets.depth (judged r)) h.counts_are
      ∙ ap (λ o. admitted_with (state m).waits (state m).opened o (length (state m).brackets) (judged r)) (top_is (state m).brackets)

  pub admitted_so : (r : Record) (f : Result Kind Refusal) → f ≡ admitted_with d.waits.pieces d.opened (top d.brackets) d.brackets.depth (judged r) → admitted (state m) r ≡ f
  admitted_so r f e = sym (admitted_is r) ∙ sym e

  -- what is left when what waits goes
  pub holds_front : Holds (freed d (length (image fronted_now.front))) bytes slots fronted_now.front
  holds_front = record {
    counts_are = ap (λ e. freed e (length (image front))) h.counts_are ∙ bare_counts ∙ ap counts_of (sym fronted_now.before);
    bytes_are = sym (take-take (length (image front)) d.used bytes size) ∙ ap (take (length (image front))) (h.bytes_are ∙ image_is) ∙ take_at (image front) (image (state m).waiting) (length (image front)) refl;
    slots_are = ap (λ n. take n slots) places ∙ sym (take-take (length front) d.kept slots fewer) ∙ ap (take (length front)) (h.slots_are ∙ ap layout (sym fronted_now.parts)) ∙ layout_front start front (state m).waiting;
    accepted = accepted_front start front (state m).waiting (subst (Accepted start) (sym fronted_now.parts) h.accepted);
  }
    where
      front : List Record
      front = fronted_now.front

      lengths : length front + length (state m).waiting ≡ length m
      lengths = sym (length-append front (state m).waiting) ∙ ap length fronted_now.parts

      image_is : image m ≡ image front ++ image (state m).waiting
      image_is = ap image (sym fronted_now.parts) ∙ image_append front (state m).waiting

      size : length (image front) ≤ d.used
      size = let e = ap length image_is in let l = length-append (image front) (image (state m).waiting) in let u = used_is h in omega arith

      places : d.kept - d.waits.count ≡ length front
      places = let e = lengths in let w = waiting_is in let k = kept_is h in omega arith

      fewer : length front ≤ d.kept
      fewer = let e = lengths in let k = kept_is h in omega arith

      bare_counts : freed (counts_of (state m)) (length (image front)) ≡ counts_of (bare (state m) front)
      bare_counts = let e : (state m).kept - length (state m).waiting ≡ length front = let l = lengths in let k = (counted_now h).kept_is in omega arith in cc

  front_now : take (length m - length (state m).waiting) m ≡ fronted_now.front
  front_now = front_is m (state m) fronted_now

  -- a call that finds an equal type
  pub kept_front : {defined : Result Answer Refusal × List Record} (a b : Answer) (d' : Counts) → a ≡ b → d' ≡ freed d (length (image (take (length m - length (state m).waiting) m))) → defined ≡ (Ok b, take (length m - length (state m).waiting) m) → Kept defined (Ok a) d bytes slots d' bytes slots
  kept_front a b d' a_is d'_is is =
      let same : d' ≡ freed d (length (image fronted_now.front)) = d'_is ∙ ap (λ l. freed d (length (image l))) front_now in
      rw (is, front_now, same, a_is) (record { answers = refl; stands = stands_now holds_front; keeps = records_are holds_front; unchanged = λ bad. absurd cc })

  module _ (r : Record) (k : Kind) (e : admitted (state m) r ≡ Ok k) where
    ad : Admits (state m) r k
    ad = admits (state m) r k e

    table_now : table_in d.opened (manner_of k).table ≡ table_of (state m) k
    table_now = ap (λ x. table_in x.opened (manner_of k).table) h.counts_are

    number_now : counted d.lengths (table_of (state m) k) ≡ number_of_next (table_of (state m) k) (state m)
    number_now = ap (λ x. counted x.lengths (table_of (state m) k)) h.counts_are ∙ counted_is (state m) (table_of (state m) k)

    pub turns_now : (t : Turn) → turn_of (top d.brackets) (manner_of k).motion ≡ Some t → Turns d.brackets.depth t
    turns_now t is =
        let depth : length (state m).brackets ≡ d.brackets.depth = sym (ap (λ x. x.brackets.depth) h.counts_are) in
        let inner : turn_of (innermost (state m).brackets) (manner_of k).motion ≡ Some t = ap (λ o. turn_of o (manner_of k).motion) (sym (top_is (state m).brackets) ∙ ap (λ x. top x.brackets) (sym h.counts_are)) ∙ is in
        subst (λ n. Turns n t) depth (turns_fit (state m).brackets (manner_of k).motion t inner (subst (λ o. deep o) inner ad.shallow) (counted_now h).deep)
      where
        deep : Option Turn → Type 0
        deep o = deepens o (length (state m).brackets) ≡ false

    fits_is : fits (length bytes) (length slots) (state m) r (table_of (state m) k) ≡ has_room (length bytes) (length slots) d.used d.kept (length r) (counted d.lengths (table_of (state m) k))
    fits_is = let u = ap (λ x. x.used) h.counts_are in let n = ap (λ x. x.kept) h.counts_are in let c = number_now in cc

    pub appended : (t : SlotTable) → t ≡ table_in d.opened (manner_of k).table → (n : ℕ) → n ≡ counted d.lengths t
        → has_room (length bytes) (length slots) d.used d.kept (length r) n ≡ true
        → (d' : Counts) → d' ≡ advanced d (length r) (manner_of k)
        → (bytes' : List ℕ) → take (d.used + length r) bytes' ≡ take d.used bytes ++ r
        → (a : Answer) → a ≡ answered t n
        → Kept (added (length bytes) (length slots) m r (table_of (state m) k)) (Ok a) d bytes slots d' bytes' (set slots d.kept (record { start = d.used; table = t; number = n }))
    appended t t_is n n_is room d' d'_is bytes' copied a a_is =
        let here : t ≡ table_of (state m) k = t_is ∙ table_now in
        let number : n ≡ number_of_next (table_of (state m) k) (state m) = n_is ∙ ap (counted d.lengths) here ∙ number_now in
        let room' : has_room (length bytes) (length slots) d.used d.kept (length r) (counted d.lengths (table_of (state m) k)) ≡ true = subst (λ x. has_room (length bytes) (length slots) d.used d.kept (length r) x ≡ true) (n_is ∙ ap (counted d.lengths) here) room in
        let is : added (length bytes) (length slots) m r (table_of (state m) k) ≡ (Ok (answered (table_of (state m) k) (number_of_next (table_of (state m) k) (state m))), m ++ r ∷ []) = cond-true _ _ _ (fits_is ∙ room') in
        let used : d.used ≡ (state m).used = ap (λ x. x.used) h.counts_are in
        let free : d.kept < length slots = grind (arith, nat_tests) in
        let ok : is_ok (admitted (state m) r) ≡ true = ap is_ok e in
        let slot : record { start = d.used; table = t; number = n } ≡ slot_in (state m) (table_of (state m) k) = cc in
        let after = holds_push h r k ad ok free bytes' copied in
        let answer : a ≡ answered (table_of (state m) k) (number_of_next (table_of (state m) k) (state m)) = cc in
        rw (is, slot, answer, d'_is) (record {
          answers = refl;
          stands = stands_now after;
          keeps = records_are after;
          unchanged = λ bad. absurd cc;
        })

    pub refused : (t : SlotTable) → t ≡ table_in d.opened (manner_of k).table → (n : ℕ) → n ≡ counted d.lengths t
        → has_room (length bytes) (length slots) d.used d.kept (length r) n ≡ false
        → Kept (added (length bytes) (length slots) m r (table_of (state m) k)) (Err Full) d bytes slots d bytes slots
    refused t t_is n n_is full =
        let here : t ≡ table_of (state m) k = t_is ∙ table_now in
        let full' = subst (λ x. has_room (length bytes) (length slots) d.used d.kept (length r) x ≡ false) (n_is ∙ ap (counted d.lengths) here) full in
        kept_nothing h (Err Full) (cond-false _ _ _ (fits_is ∙ full'))

-- what waits, as the memory has it
pub waiting_part : {d : Counts} {bytes : List ℕ} {slots : List Slot} {m : List Record} (h : Holds d bytes slots m) (from : ℕ) → from ≡ length (image (take (length m - length (state m).waiting) m)) → between from d.used bytes ≡ image (state m).waiting
waiting_part {d} {bytes} {slots} {m} h from is =
    let f = fronted_now h in
    let whole : f.front ++ ((state m).waiting ++ []) ≡ m = ap (λ l. f.front ++ l) (append-nil (state m).waiting) ∙ f.parts in
    ap (λ n. between n d.used bytes) (is ∙ ap (λ l. length (image l)) (front_now h))
    ∙ ap (λ n. between (length (image f.front)) n bytes) (used_is h ∙ ap (λ l. length (image l)) (sym f.parts))
    ∙ block_is h f.front (state m).waiting [] whole

-- the cases of put
module _ (room places : ℕ) (m : List Record) (r : Record) where
  put_in_other : (o : Option BodyKind) (t : SlotTable) → (t ≡ table.Types → ⊥) → put_in room places m r (table_in o t) ≡ added room places m r (table_in o t)
  put_in_other o table.Types other = absurd (other refl)
  put_in_other (Some body_kind.Function) table.Expressions other = refl
  put_in_other o t other = refl

  pub put_refused : (e : Refusal) → admitted (state m) r ≡ Err e → put_def room places m r ≡ (Err e, m)
  unfolding put_def
  put_refused e is = ap (put_admitted room places m r) is

  pub put_type : (k : Kind) → admitted (state m) r ≡ Ok k → (manner_of k).table ≡ table.Types → (o : Option ℕ) → known (state m) r ≡ o → put_def room places m r ≡ known_or_added room places m r o
  unfolding put_def
  put_type k is typed o e = ap (put_admitted room places m r) is ∙ ap (λ t. put_in room places m r (table_in (state m).opened t)) typed ∙ ap (known_or_added room places m r) e

  pub put_new : (k : Kind) → admitted (state m) r ≡ Ok k → (manner_of k).table ≡ table.Types → known (state m) r ≡ None → put_def room places m r ≡ added room places m r (table_of (state m) k)
  put_new k is typed e = put_type k is typed None e ∙ ap (λ t. added room places m r (table_in (state m).opened t)) (sym typed)

  pub put_other : (k : Kind) → admitted (state m) r ≡ Ok k → ((manner_of k).table ≡ table.Types → ⊥) → put_def room places m r ≡ added room places m r (table_of (state m) k)
  unfolding put_def
  put_other k is other = ap (put_admitted room places m r) is ∙ put_in_other (state m).opened (manner_of k).table other
