-- What a put leaves in an owned draft, once there is room.
use Rattle.std.proofs.Common.{◌≡◌, ℕ, ◌+◌, ◌≤◌, List, ◌++◌, length, take, drop, IsErrAnd, Ok, Err, Result, Vec, sym, ap, ◌∙◌, arith}
use Rattle.std.proofs.lemmas.List.{take_at}
use Rattle.std.specs.declared.alloc.Global.{Global}
use Rattle.rules.specs.Module.{Record}
use Rattle.draft.specs.declared.refusal.Refusal.{Refusal}
use Rattle.draft.specs.Admitted.{image}
use Rattle.arena.specs.declared.Draft.{Draft}
use Rattle.arena.specs.Answer.{Answer}
use Rattle.arena.specs.declared.slot.Slot.{Slot}
use Rattle.arena.specs.Put.{put_def}
use Rattle.arena.specs.Memory.{Stands, records, KeptAs}
use Rattle.owned.specs.declared.denial.Denial.{Denial}
use Rattle.owned.specs.declared.denial.Denial.TheVariants.{Refused}
use Rattle.owned.specs.declared.owned.OwnedDraft.{OwnedDraft}
use Rattle.owned.specs.Kept.{kept_in}
use Rattle.owned.specs.Putting.{put_all, PutOrNone}
use Rattle.owned.proofs.Growing.{put_enough}

-- what a list holds once the loan of all its elements ends
abbrev pub Refilled : {T : Type 0} → Vec T Global → List T → Type 0
Refilled v last = take v.len (last ++ drop (length last) v.items) ≡ last

pub refilled_is : {T : Type 0} (v : Vec T Global) (lent last : List T) → lent ≡ v.items → length last ≡ length lent → Refilled v last
refilled_is v lent last is kept = take_at last (drop (length last) v.items) v.len (kept ∙ ap length is ∙ sym v.ok.0)

-- with room for the record, put answers as defined, and then keeps what is defined
pub put_made : (w : OwnedDraft) (m : List Record) (r : Record) {bytes : List ℕ} {slots : List Slot} → bytes ≡ w.bytes.items → slots ≡ w.slots.items
    → kept_in w ≡ m → length (image m) + length r ≤ w.bytes.len → length m + 1 ≤ w.slots.len
    → {answer : Result Answer Refusal} {d' : Draft} {bytes' : List ℕ} {slots' : List Slot} → KeptAs (put_def (length bytes) (length slots) (records w.draft bytes slots) r) answer w.draft bytes slots d' bytes' slots'
    → ((put_all m r).0 ≡ answer) × (records d' bytes' slots' ≡ (put_all m r).1)
put_made w m r {bytes} {slots} bytes_is slots_is is large many kept =
    let h : Stands w.draft bytes slots = simp (bytes_is, slots_is) w.stands in
    let same : records w.draft bytes slots ≡ m = simp (bytes_is, slots_is) is in
    let room : length (image (records w.draft bytes slots)) + length r ≤ length bytes = simp same (let l = w.bytes.ok in let b = ap length bytes_is in omega arith) in
    let places : length (records w.draft bytes slots) + 1 ≤ length slots = simp same (let l = w.slots.ok in let b = ap length slots_is in omega arith) in
    let e = put_enough (length bytes) (length slots) (records w.draft bytes slots) r h.accepted room places ∙ ap (λ l. put_all l r) same in
    (sym (kept.answers ∙ ap (λ p. p.0) e), kept.keeps ∙ ap (λ p. p.1) e)

-- a refusal is passed on
pub refused_so : (x : Result Answer Denial) (e : Refusal) (defined : Result Answer Refusal × List Record) (before after : List Record) → IsErrAnd x (λ d. d ≡ Refused e) → defined.0 ≡ Err e → after ≡ defined.1 → PutOrNone defined x before after
refused_so (Ok a) e defined before after bad p q = absurd bad
refused_so (Err d) e defined before after is p q = rw is (p, q)
