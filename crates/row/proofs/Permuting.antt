-- A permutation of items in the order of their ranks is sorted.
use Rattle.std.proofs.Common.{◌≡◌, ℕ, suc, ◌<◌, ◌≤◌, List, [], ◌∷◌, length, Some, get_or, refl, sym, ap, ◌∙◌, inl, inr, arith}
use Rattle.std.specs.List.{swap, Contains}
use Rattle.std.specs.List.Sorted.{IsPermutation, IsNonDecreasingBy}
use Rattle.std.proofs.lemmas.Bool.{cases_eq}
use Rattle.std.proofs.lemmas.Option.{slice_get_within, get_or_from_slice_get, slice_get-get_or}
use Rattle.std.proofs.lemmas.List.Edits.{Swapped, swapped_from_swap, length-swap}
use Rattle.std.proofs.lemmas.List.Sorted.{IsPermutation-sym, IsPermutation-keeps, Contains-permutation}
use Rattle.row.specs.Row.{Has, Once}
use Rattle.row.proofs.Places.{In, in_from_has, has_from_in, apart_from_once}
use Rattle.row.proofs.Sorting.{Rising, Sorted}

-- two places of one element of a list without repetition, where two other places have changed places
module _ {X : Type 0} (f g : ℕ → X) (n a b : ℕ) (below_a : a < n) (below_b : b < n) (differ : (j k : ℕ) → j < n → k < n → f j ≡ f k → j ≡ k) (s : Swapped f g a b) where
  -- where the element at a place stood
  abbrev Stood : ℕ → Type 0
  Stood j = (i : ℕ) × (i < n) × (g j ≡ f i) × ((j ≡ a → i ≡ b) × (j ≡ b → i ≡ a) × ((j ≡ a → ⊥) → (j ≡ b → ⊥) → i ≡ j))

  stood : (j : ℕ) → j < n → Stood j
  stood j l =
      elim (cases_eq j a) [
        | inl e ↦ (b, below_b, ap g e ∙ s.0, (λ _. refl, λ q. sym q ∙ e, λ d _. absurd (d e)))
        | inr d ↦ elim (cases_eq j b) [
          | inl e ↦ (a, below_a, ap g e ∙ s.1, (λ q. absurd (d q), λ _. refl, λ _ c. absurd (c e)))
          | inr c ↦ (j, l, s.2 j d c, (λ q. absurd (d q), λ q. absurd (c q), λ _ _. refl))
        ]
      ]

  -- no two places have it from one
  one_place : (j k i h : ℕ) → i ≡ h → (j ≡ a → i ≡ b) × (j ≡ b → i ≡ a) × ((j ≡ a → ⊥) → (j ≡ b → ⊥) → i ≡ j) → (k ≡ a → h ≡ b) × (k ≡ b → h ≡ a) × ((k ≡ a → ⊥) → (k ≡ b → ⊥) → h ≡ k) → j ≡ k
  one_place j k i h same p q =
      elim (cases_eq j a) [
        | inl e ↦ let ib = p.0 e in elim (cases_eq k a) [
          | inl e' ↦ e ∙ sym e'
          | inr d' ↦ elim (cases_eq k b) [
            | inl c' ↦ let ha = q.1 c' in omega arith
            | inr n' ↦ let hk = q.2 d' n' in absurd (n' (sym hk ∙ sym same ∙ ib))
          ]
        ]
        | inr d ↦ elim (cases_eq j b) [
          | inl e ↦ let ia = p.1 e in elim (cases_eq k b) [
            | inl e' ↦ e ∙ sym e'
            | inr d' ↦ elim (cases_eq k a) [
              | inl c' ↦ let hb = q.0 c' in omega arith
              | inr n' ↦ let hk = q.2 n' d' in absurd (n' (sym hk ∙ sym same ∙ ia))
            ]
          ]
          | inr c ↦ let ij = p.2 d c in elim (cases_eq k a) [
            | inl e' ↦ let hb = q.0 e' in absurd (c (sym ij ∙ same ∙ hb))
            | inr d' ↦ elim (cases_eq k b) [
              | inl e' ↦ let ha = q.1 e' in absurd (d (sym ij ∙ same ∙ ha))
              | inr c' ↦ let hk = q.2 d' c' in sym ij ∙ same ∙ hk
            ]
          ]
        ]
      ]

  pub still_differ : (j k : ℕ) → j < n → k < n → g j ≡ g k → j ≡ k
  still_differ j k l u e =
      let p = stood j l in
      let q = stood k u in
      one_place j k p.0 q.0 (differ p.0 q.0 p.1 q.1 (sym p.2 ∙ e ∙ q.2)) p.3 q.3

module _ {X : Type 0} where
  -- the elements at two places differ
  abbrev Differ : List X → Type 0
  Differ xs = (d : X) (j k : ℕ) → j < length xs → k < length xs → get_or xs j d ≡ get_or xs k d → j ≡ k

  differ_from_once : (xs : List X) → Once xs → Differ xs
  differ_from_once xs o d j k l u e = o j k (get_or xs j d) (slice_get-get_or xs j d l) (slice_get-get_or xs k d u ∙ ap Some (sym e))

  once_from_differ : (xs : List X) → Differ xs → Once xs
  once_from_differ xs f j k x h g =
      f x j k (slice_get_within xs j x h) (slice_get_within xs k x g) (get_or_from_slice_get xs j x x h ∙ sym (get_or_from_slice_get xs k x x g))

  differ_swapped : (xs : List X) (a b : ℕ) → a < length xs → b < length xs → Differ xs → Differ (swap xs a b)
  differ_swapped xs a b l u f d j k p q e =
      let n = length-swap xs a b in
      still_differ (λ i. get_or xs i d) (λ i. get_or (swap xs a b) i d) (length xs) a b l u (f d) (swapped_from_swap xs (swap xs a b) a b d l u refl) j k (omega arith) (omega arith) e

  pub once_permuted : (xs ys : List X) → IsPermutation xs ys → Once xs → Once ys
  once_permuted xs ys p o = once_from_differ ys (IsPermutation-keeps xs Differ (differ_from_once xs o) differ_swapped ys p)

  contains_from_has : (xs : List X) (x : X) → Has xs x → Contains xs x
  contains_from_has xs x h = (h.0, slice_get_within xs h.0 x h.1, get_or_from_slice_get xs h.0 x x h.1)

  has_from_contains : (xs : List X) (x : X) → Contains xs x → Has xs x
  has_from_contains xs x h = (h.0, slice_get-get_or xs h.0 x h.1 ∙ ap Some h.2)

  pub in_permuted : (xs ys : List X) → IsPermutation xs ys → (x : X) → In xs x → In ys x
  in_permuted xs ys p x h = in_from_has ys x (has_from_contains ys x (Contains-permutation xs ys x p (contains_from_has xs x (has_from_in xs x h))))

  module _ (rank : X → ℕ) where
    rising_from : (xs : List X) → IsNonDecreasingBy rank xs → Rising rank xs
    rising_from [] r = tt
    rising_from (x ∷ xs) r = (
      λ y h.
          let k = has_from_in xs y h in
          let w = slice_get_within xs k.0 y k.1 in
          let e = ap rank (get_or_from_slice_get xs k.0 y y k.1) in
          let l : rank x ≤ rank (get_or xs k.0 y) = r 0 (suc k.0) y (omega arith) (omega arith) in
          omega arith,
      rising_from xs (λ i j d l u. r (suc i) (suc j) d (omega arith) (omega arith)),
    )

    pub permuted : (xs ys : List X) → Once xs → IsPermutation xs ys → IsNonDecreasingBy rank ys → Sorted rank xs ys
    permuted xs ys o p r = record {
      rising = rising_from ys r;
      apart = apart_from_once ys (once_permuted xs ys p o);
      back = in_permuted ys xs (IsPermutation-sym xs ys p);
      forth = in_permuted xs ys p;
    }
