-- Items in the order of their ranks, without them.
use Rattle.std.proofs.Common.{◌≡◌, ℕ, zero, suc, ◌<◌, List, [], ◌∷◌, map, length, get_or, refl, sym, ap, ◌∙◌, subst, inl, inr, arith}
use Rattle.std.specs.List.{AllByRecursion}
use Rattle.std.specs.List.Sorted.{IsPermutation, IsNonDecreasingBy}
use Rattle.std.proofs.lemmas.List.{length-map}
use Rattle.std.proofs.lemmas.List.Sorted.{IsPermutation-sym, IsPermutation-map}
use Rattle.rules.specs.Module.{Module}
use Rattle.row.proofs.Places.{In}
use Rattle.row.proofs.Permuting.{in_permuted}
use Rattle.promises.specs.Rows.{RowItem, rank}
use Rattle.promises.proofs.Among.{in_all}
use Rattle.module_row.specs.declared.ranked.Ranked.{Ranked}
use Rattle.module_row.specs.Rows.{shown_item}
use Rattle.module_row.specs.Ranked.{shown_ranked, with_rank}

abbrev item_of : Ranked → RowItem
item_of r = shown_item r.item

-- an element of a list, and what a function makes of it
module _ {X Y : Type 0} (g : X → Y) where
  record Element (xs : List X) (i : ℕ) : Type 0 where
    it : X
    among : In xs it
    here : (d : X) → get_or xs i d ≡ it
    there : (d : Y) → get_or (map g xs) i d ≡ g it

  element : (xs : List X) (i : ℕ) → i < length xs → Element xs i
  element [] i l = absurd (omega arith)
  element (x ∷ xs) zero l = record { it = x; among = inl refl; here = λ d. refl; there = λ d. refl }
  element (x ∷ xs) (suc i) l = let e = element xs i (omega arith) in record { it = e.it; among = inr e.among; here = e.here; there = e.there }

  rises_mapped : (n : X → ℕ) (k : Y → ℕ) (xs : List X) → ((x : X) → In xs x → n x ≡ k (g x)) → IsNonDecreasingBy n xs → IsNonDecreasingBy k (map g xs)
  rises_mapped n k xs same r i j d l u =
      let size : length (map g xs) ≡ length xs = length-map _ _ in
      let a = element xs i (omega arith) in
      let b = element xs j (omega arith) in
      let up = r i j a.it l (omega arith) in
      let ha = ap n (a.here a.it) in
      let hb = ap n (b.here a.it) in
      let sa = same a.it a.among in
      let sb = same b.it b.among in
      let ta = ap k (a.there d) in
      let tb = ap k (b.there d) in
      omega arith

module _ (m : Module) where
  IsRanked : Ranked → Type 0
  IsRanked r = r.rank ≡ rank m (item_of r)

  all_ranked : (xs : List Ranked) (items : List RowItem) → map shown_ranked xs ≡ map (with_rank m) items → AllByRecursion IsRanked xs
  unfolding IsRanked
  all_ranked [] items e = tt
  all_ranked (r ∷ xs) [] e = absurd cc
  all_ranked (r ∷ xs) (i ∷ items) e =
      let h : shown_ranked r ≡ with_rank m i = cc in
      let t : map shown_ranked xs ≡ map (with_rank m) items = cc in
      (ap (λ p. p.0) h ∙ ap (rank m) (sym (ap (λ p. p.1) h)), all_ranked xs items t)

  items_are : (xs : List Ranked) (items : List RowItem) → map shown_ranked xs ≡ map (with_rank m) items → map item_of xs ≡ items
  items_are [] [] e = refl
  items_are [] (i ∷ items) e = absurd cc
  items_are (r ∷ xs) [] e = absurd cc
  items_are (r ∷ xs) (i ∷ items) e =
      let h : shown_ranked r ≡ with_rank m i = cc in
      let t : map shown_ranked xs ≡ map (with_rank m) items = cc in
      let s = ap (λ p. p.1) h in
      let q = items_are xs items t in
      cc

  shown_items : (ys : List Ranked) → map shown_item (map (λ r. r.item) ys) ≡ map item_of ys
  shown_items [] = refl
  shown_items (r ∷ ys) = ap (λ l. item_of r ∷ l) (shown_items ys)

  module _ (xs ys : List Ranked) (items : List RowItem) (e : map shown_ranked xs ≡ map (with_rank m) items) (p : IsPermutation xs ys) where
    pub items_permuted : IsPermutation items (map shown_item (map (λ r. r.item) ys))
    items_permuted = subst (IsPermutation items) (sym (shown_items ys)) (subst (λ l. IsPermutation l (map item_of ys)) (items_are xs items e) (IsPermutation-map item_of xs ys p))

    pub items_rise : IsNonDecreasingBy (λ r. r.rank) ys → IsNonDecreasingBy (rank m) (map shown_item (map (λ r. r.item) ys))
    unfolding IsRanked
    items_rise r =
        subst (IsNonDecreasingBy (rank m)) (sym (shown_items ys))
        (rises_mapped item_of (λ z. z.rank) (rank m) ys (λ z i. in_all IsRanked xs z (all_ranked xs items e) (in_permuted ys xs (IsPermutation-sym xs ys p) z i)) r)
