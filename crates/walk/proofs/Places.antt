-- Elements of lists by their places.
use Rattle.std.proofs.Common.{◌≡◌, ℕ, zero, suc, ◌+◌, ◌<◌, List, [], ◌∷◌, ◌++◌, length, take, set, Some, refl, ap, ◌∙◌, subst, arith}
use Rattle.std.specs.List.{AllByRecursion, slice_get}
use Rattle.std.proofs.lemmas.List.{take_more}
use Rattle.std.proofs.lemmas.Option.{get_or_from_slice_get, slice_get_within}
use Rattle.std.proofs.lemmas.Option.{same_Some}

module _ {X : Type 0} where
  pub got : (xs : List X) (k : ℕ) → k < length xs → (x : X) × (slice_get xs k ≡ Some x)
  got [] k l = absurd (omega arith)
  got (x ∷ xs) zero l = (x, refl)
  got (x ∷ xs) (suc k) l = got xs k (omega arith)

  -- equal at every place
  pub same_places : (xs ys : List X) → length xs ≡ length ys → ((k : ℕ) → k < length xs → slice_get xs k ≡ slice_get ys k) → xs ≡ ys
  same_places [] [] e h = refl
  same_places [] (y ∷ ys) e h = absurd (omega arith)
  same_places (x ∷ xs) [] e h = absurd (omega arith)
  same_places (x ∷ xs) (y ∷ ys) e h =
      let first : x ≡ y = same_Some x y (h 0 (omega arith)) in
      let rest : xs ≡ ys = same_places xs ys (omega arith) (λ k l. h (suc k) (omega arith)) in
      ap (λ z. z ∷ xs) first ∙ ap (λ l. y ∷ l) rest

  -- one element more
  pub one_more : (xs : List X) (k : ℕ) (x : X) → slice_get xs k ≡ Some x → take (k + 1) xs ≡ take k xs ++ x ∷ []
  one_more xs k x e = take_more xs k x (slice_get_within xs k x e) ∙ ap (λ y. take k xs ++ y ∷ []) (get_or_from_slice_get xs k x x e)

  -- what holds of all holds of the one at a place
  pub all_at : (P : X → Type 0) (xs : List X) (k : ℕ) (x : X) → AllByRecursion P xs → slice_get xs k ≡ Some x → P x
  all_at P [] k x a e = absurd cc
  all_at P (y ∷ xs) zero x a e = subst P (same_Some y x e) a.0
  all_at P (y ∷ xs) (suc k) x a e = all_at P xs k x a.1 e

  -- elements before a place stay where it is set, and so do those that are taken
  pub set_before : (xs : List X) (n k : ℕ) (x : X) → k < n → slice_get xs k ≡ slice_get (set xs n x) k
  set_before [] n k x l = refl
  set_before (y ∷ xs) zero k x l = absurd (omega arith)
  set_before (y ∷ xs) (suc n) zero x l = refl
  set_before (y ∷ xs) (suc n) (suc k) x l = set_before xs n k x (omega arith)

  pub set_there : (xs : List X) (n : ℕ) (x : X) → n < length xs → slice_get (set xs n x) n ≡ Some x
  set_there [] n x l = absurd (omega arith)
  set_there (y ∷ xs) zero x l = refl
  set_there (y ∷ xs) (suc n) x l = set_there xs n x (omega arith)

  pub taken_before : (xs : List X) (n k : ℕ) → k < n → slice_get xs k ≡ slice_get (take n xs) k
  taken_before xs zero k l = absurd (omega arith)
  taken_before [] (suc n) k l = refl
  taken_before (y ∷ xs) (suc n) zero l = refl
  taken_before (y ∷ xs) (suc n) (suc k) l = taken_before xs n k (omega arith)
