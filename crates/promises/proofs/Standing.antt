-- A kept record stands in the module, or a later one replaced it: by the law on weights.
use Rattle.std.proofs.Common.{◌≡◌, ℕ, zero, suc, ◌+◌, ◌-◌, ◌<◌, ◌≤◌, ◌⊎◌, Bool, true, false, cond, ◌&&◌, eqb, List, [], ◌∷◌, ◌++◌, length, slice_get, flat_map, Some, sum_by, refl, ap, subst, inl, inr, arith, length-append}
use Rattle.std.specs.List.{AllByRecursion, enumerate_from}
use Rattle.std.specs.Str.{bytes_eq}
use Rattle.std.proofs.lemmas.Bool.{cases_lt, eqb-true, eq-eqb, and_parts, and_from}
use Rattle.std.proofs.lemmas.List.Sums.{sum_by-cons}
use Rattle.std.proofs.lemmas.Option.{same_Some}
use Rattle.std.proofs.lemmas.Slice.Eq.{bytes_eq-Decides}
use Rattle.records.specs.Handles.{handles_of}
use Rattle.ir.specs.declared.handle.Handle.{Handle}
use Rattle.rules.specs.Module.{Record, Item}
use Rattle.rules.specs.Items.{handles}
use Rattle.rules.proofs.Passing.{all_left, all_right}
use Rattle.draft.specs.State.{start, state}
use Rattle.draft.specs.Admitted.{Accepted}
use Rattle.laws.specs.Decoded.{Entry, entries_of, standing, Replaced}
use Rattle.laws.proofs.Decoding.{decoded}
use Rattle.row.proofs.Places.{In, in_either}
use Rattle.promises.proofs.Among.{in_all}

module _ (w : Entry → ℕ) where
  in_sum : (xs : List Entry) (e : Entry) → In xs e → w e ≤ sum_by w xs
  in_sum [] e h = absurd h
  in_sum (x ∷ xs) e (inl q) = let s = sum_by-cons w x xs in let same = ap w q in omega arith
  in_sum (x ∷ xs) e (inr h) = let s = sum_by-cons w x xs in let l = in_sum xs e h in omega arith

  sum_in : (xs : List Entry) → 0 < sum_by w xs → (e : Entry) × In xs e × (0 < w e)
  sum_in [] h = absurd (omega arith)
  sum_in (x ∷ xs) h =
      let s = sum_by-cons w x xs in
      elim (cases_lt 0 (w x)) [
        | inl b ↦ (x, inl refl, b)
        | inr b ↦ let r = sum_in xs (omega arith) in (r.0, inr r.1, r.2)
      ]

in_numbered : (n : ℕ) (m : List Record) (k p : ℕ) (r : Record) → n + k ≡ p → slice_get m k ≡ Some r → In (enumerate_from n m) (p, r)
in_numbered n [] k p r e h = absurd cc
in_numbered n (x ∷ m) zero p r e h = let q : n ≡ p = omega arith in let s = same_Some x r h in inl (λ i. (q i, s i))
in_numbered n (x ∷ m) (suc k) p r e h = inr (in_numbered (n + 1) m k p r (omega arith) h)

-- one for this record at this place
abbrev weight : ℕ → Record → Entry → ℕ
weight p r e = cond (eqb e.0 p && bytes_eq e.1 r) 1 0

weight_one : (p : ℕ) (r : Record) → weight p r (p, r) ≡ 1
weight_one p r = let t = and_from (eqb p p) (bytes_eq r r) (eq-eqb p p refl) ((bytes_eq-Decides r r).1 refl) in rw t refl

only_it : (p : ℕ) (r : Record) (e : Entry) → 0 < weight p r e → e ≡ (p, r)
only_it p r e h = go (eqb e.0 p && bytes_eq e.1 r) refl h
  where
    go : (b : Bool) → (eqb e.0 p && bytes_eq e.1 r) ≡ b → 0 < cond b 1 0 → e ≡ (p, r)
    go true q l =
        let a = and_parts (eqb e.0 p) (bytes_eq e.1 r) q in
        let place = eqb-true e.0 p a.0 in
        let bytes : e.1 ≡ r = (bytes_eq-Decides e.1 r).0 a.1 in
        λ i. (place i, bytes i)
    go false q l = absurd (omega arith)

pub stands : (m : List Record) → Accepted start m → (p : ℕ) (r : Record) → slice_get m p ≡ Some r → In (standing (state m)) (p, r) ⊎ Replaced (state m) (p, r)
stands m a p r h =
    let d = decoded m a in
    let w = weight p r in
    let once = d.once w in
    let there = in_sum w (enumerate_from 0 m) (p, r) (in_numbered 0 m p p r (omega arith) h) in
    let one = weight_one p r in
    elim (cases_lt 0 (sum_by w (standing (state m)))) [
      | inl b ↦ let e = sum_in w (standing (state m)) b in inl (subst (In (standing (state m))) (only_it p r e.0 e.2) e.1)
      | inr b ↦ let e = sum_in w d.gone (omega arith) in inr (subst (Replaced (state m)) (only_it p r e.0 e.2) (in_all (Replaced (state m)) d.gone e.0 d.replaced e.1))
    ]

-- what stands in an item

from_numbered : (n : ℕ) (rs : List Record) (e : Entry) → In (enumerate_from n rs) e → In rs e.1 × (n ≤ e.0) × (e.0 < n + length rs)
from_numbered n [] e h = absurd h
from_numbered n (x ∷ rs) e (inl q) = let p = ap (λ y. y.0) q in (inl (ap (λ y. y.1) q), omega arith, omega arith)
from_numbered n (x ∷ rs) e (inr h) = let r = from_numbered (n + 1) rs e h in let l = r.1 in let u = r.2 in (inr r.0, omega arith, omega arith)

module _ (P : Handle → Type 0) where
  all_of_one : (rs : List Record) (r : Record) → AllByRecursion P (flat_map handles_of rs) → In rs r → AllByRecursion P (handles_of r)
  all_of_one [] r a h = absurd h
  all_of_one (x ∷ rs) r a (inl e) = subst (λ y. AllByRecursion P (handles_of y)) e (all_left P (handles_of x) (flat_map handles_of rs) a)
  all_of_one (x ∷ rs) r a (inr h) = all_of_one rs r (all_right P (handles_of x) (flat_map handles_of rs) a) h

  pub all_in_item : (i : Item) (e : Entry) → In (entries_of i) e → AllByRecursion P (handles i) → AllByRecursion P (handles_of e.1)
  all_in_item i e h a =
      elim (in_either i.taken (i.bytes ∷ []) e.1 (from_numbered (i.place - length i.taken) (i.taken ++ i.bytes ∷ []) e h).0) [
        | inl g ↦ all_of_one i.taken e.1 (all_right P (handles_of i.bytes) (flat_map handles_of i.taken) a) g
        | inr g ↦ elim g [ inl q ↦ subst (λ y. AllByRecursion P (handles_of y)) q (all_left P (handles_of i.bytes) (flat_map handles_of i.taken) a) | inr z ↦ absurd z ]
      ]

pub place_in_item : (i : Item) (e : Entry) → length i.taken ≤ i.place → In (entries_of i) e → (e.0 ≤ i.place) × (i.place ≤ e.0 + length i.taken)
place_in_item i e l h =
    let r = from_numbered (i.place - length i.taken) (i.taken ++ i.bytes ∷ []) e h in
    let low = r.1 in
    let high = r.2 in
    let size = length-append i.taken (i.bytes ∷ []) in
    (omega arith, omega arith)
