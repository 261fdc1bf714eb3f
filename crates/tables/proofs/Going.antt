-- Going on from a place among what an iterator has left.
use Rattle.std.proofs.Common.{◌≡◌, ℕ, zero, suc, ◌+◌, ◌≤◌, List, [], ◌∷◌, length, drop, Some, None, Option, MatchOption, sym, refl, ap, ◌∙◌, arith}
use Rattle.std.specs.List.{slice_get}
use Rattle.std.specs.Iterator.{YieldsFirstBy, Yields, SkipsThenYields}
use Rattle.std.proofs.Math.Seq.{drop-nil}
use Rattle.std.proofs.lemmas.List.{drop-drop}

module _ {S A B : Type 0} (v : A → B) (rest : S → List B) where
  abbrev steps : S → Option A → S → Type 0
  steps = YieldsFirstBy v rest

  some_passed : (xs : List A) (s t u : S) (x : A) → Yields steps s xs t → rest t ≡ v x ∷ rest u → drop (length xs) (rest s) ≡ v x ∷ rest u
  some_passed [] s t u x y e = ap rest y ∙ e
  some_passed (w ∷ xs) s t u x y e = ap (drop (suc (length xs))) y.1 ∙ some_passed xs y.0 t u x y.2 e

  none_left : (xs : List A) (n : ℕ) (s t : S) → Yields steps s xs t → rest t ≡ [] → length xs ≤ n → drop n (rest s) ≡ []
  none_left [] n s t y e l = ap (drop n) (ap rest y ∙ e) ∙ drop-nil n
  none_left (w ∷ xs) zero s t y e l = absurd (omega arith)
  none_left (w ∷ xs) (suc n) s t y e l = ap (drop (suc n)) y.1 ∙ none_left xs n y.0 t y.2 e (omega arith)

  -- what `nth` gives, and what is then left
  pub skipped : (s u : S) (n : ℕ) (r : Option A) → SkipsThenYields steps s n r u → MatchOption r (drop n (rest s) ≡ []) (λ x. drop n (rest s) ≡ v x ∷ rest u)
  skipped s u n None h = none_left h.0 n s h.1.0 h.1.1 h.1.2.0 h.2
  skipped s u n (Some x) h = ap (λ k. drop k (rest s)) (sym h.2) ∙ some_passed h.0 s h.1.0 u x h.1.1 h.1.2

module _ {X : Type 0} where
  -- the element at a place is the first of those from there on
  pub at_front : (xs : List X) (n : ℕ) → slice_get xs n ≡ slice_get (drop n xs) 0
  at_front [] n = ap (λ l. slice_get {X = X} l 0) (sym (drop-nil n))
  at_front (x ∷ xs) zero = refl
  at_front (x ∷ xs) (suc n) = at_front xs n

  pub none_at : (xs : List X) (n : ℕ) → drop n xs ≡ [] → slice_get xs n ≡ None
  none_at xs n e = at_front xs n ∙ ap (λ l. slice_get l 0) e

  pub some_at : (xs ys : List X) (n : ℕ) (x : X) → drop n xs ≡ x ∷ ys → slice_get xs n ≡ Some x
  some_at xs ys n x e = at_front xs n ∙ ap (λ l. slice_get l 0) e

  -- those behind it
  pub behind : (xs ys : List X) (n : ℕ) (x : X) → drop n xs ≡ x ∷ ys → ys ≡ drop (n + 1) xs
  behind xs ys n x e = ap (drop 1) (sym e) ∙ drop-drop 1 n xs
