-- What a function makes of so many numbers.
use Rattle.std.proofs.Common.{◌≡◌, ℕ, zero, suc, ◌+◌, ◌≤◌, [], ◌∷◌, ◌++◌, length, get_or, refl, sym, ap, ◌∙◌, arith}
use Rattle.promises.specs.Rows.{counted}

module _ {X : Type 0} (f : ℕ → X) where
  counted_next : (n k : ℕ) → counted f n k ++ f (n + k) ∷ [] ≡ counted f n (suc k)
  counted_next n zero = let e : n + 0 ≡ n = omega arith in ap (λ j. f j ∷ []) e
  counted_next n (suc k) =
      let e : n + suc k ≡ suc n + k = omega arith in
      ap (λ l. f n ∷ l) (ap (λ j. counted f (suc n) k ++ f j ∷ []) e ∙ counted_next (suc n) k)

  -- one number more
  pub counted_more : (k : ℕ) → counted f 0 k ++ f k ∷ [] ≡ counted f 0 (suc k)
  counted_more k = let e : 0 + k ≡ k = omega arith in ap (λ j. counted f 0 k ++ f j ∷ []) (sym e) ∙ counted_next 0 k

  pub counted_size : (n k : ℕ) → length (counted f n k) ≡ k
  counted_size n zero = refl
  counted_size n (suc k) = ap suc (counted_size (suc n) k)

  pub counted_at : (n k j : ℕ) (d : X) → suc j ≤ k → get_or (counted f n k) j d ≡ f (n + j)
  counted_at n zero j d l = absurd (omega arith)
  counted_at n (suc k) zero d l = let e : n ≡ n + 0 = omega arith in ap f e
  counted_at n (suc k) (suc j) d l = let e : suc n + j ≡ n + suc j = omega arith in counted_at (suc n) k j d (omega arith) ∙ ap f e
