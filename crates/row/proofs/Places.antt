-- What stands in a list, by recursion over it.
use Rattle.std.proofs.Common.{◌≡◌, ℕ, zero, suc, ◌⊎◌, List, [], ◌∷◌, ◌++◌, Some, slice_get, refl, sym, ap, subst, inl, inr, arith}
use Rattle.std.proofs.lemmas.Option.{same_Some}
use Rattle.row.specs.Row.{Has, Once}

abbrev pub In : {X : Type 0} → List X → X → Type 0
In [] x = ⊥
In (y ∷ ys) x = (y ≡ x) ⊎ In ys x

abbrev pub Apart : {X : Type 0} → List X → Type 0
Apart [] = Unit {0}
Apart (x ∷ xs) = (In xs x → ⊥) × Apart xs

module _ {X : Type 0} where
  pub in_from_get : (xs : List X) (k : ℕ) (x : X) → slice_get xs k ≡ Some x → In xs x
  in_from_get [] k x h = absurd cc
  in_from_get (y ∷ ys) zero x h = inl (same_Some y x h)
  in_from_get (y ∷ ys) (suc k) x h = inr (in_from_get ys k x h)

  pub in_from_has : (xs : List X) (x : X) → Has xs x → In xs x
  in_from_has xs x h = in_from_get xs h.0 x h.1

  pub has_from_in : (xs : List X) (x : X) → In xs x → Has xs x
  has_from_in [] x h = absurd h
  has_from_in (y ∷ ys) x (inl e) = (0, ap Some e)
  has_from_in (y ∷ ys) x (inr h) = let a = has_from_in ys x h in (suc a.0, a.1)

  in_moved : (xs : List X) (x y : X) → x ≡ y → In xs x → In xs y
  in_moved xs x y e h = subst (λ z. In xs z) e h

  pub once_from_apart : (xs : List X) → Apart xs → Once xs
  once_from_apart [] a j k y h g = absurd cc
  once_from_apart (x ∷ xs) a zero zero y h g = refl
  once_from_apart (x ∷ xs) a zero (suc k) y h g = absurd (a.0 (in_moved xs y x (sym (same_Some x y h)) (in_from_get xs k y g)))
  once_from_apart (x ∷ xs) a (suc j) zero y h g = absurd (a.0 (in_moved xs y x (sym (same_Some x y g)) (in_from_get xs j y h)))
  once_from_apart (x ∷ xs) a (suc j) (suc k) y h g = ap suc (once_from_apart xs a.1 j k y h g)

  pub apart_from_once : (xs : List X) → Once xs → Apart xs
  apart_from_once [] o = tt
  apart_from_once (x ∷ xs) o = (
    λ h. let a = has_from_in xs x h in let z : 0 ≡ suc a.0 = o 0 (suc a.0) x refl a.1 in absurd (omega arith),
    apart_from_once xs (λ j k y h g. let s : suc j ≡ suc k = o (suc j) (suc k) y h g in omega arith),
  )

  pub in_left : (xs ys : List X) (x : X) → In xs x → In (xs ++ ys) x
  in_left [] ys x h = absurd h
  in_left (z ∷ xs) ys x (inl e) = inl e
  in_left (z ∷ xs) ys x (inr h) = inr (in_left xs ys x h)

  pub in_right : (xs ys : List X) (x : X) → In ys x → In (xs ++ ys) x
  in_right [] ys x h = h
  in_right (z ∷ xs) ys x h = inr (in_right xs ys x h)

  pub in_either : (xs ys : List X) (x : X) → In (xs ++ ys) x → In xs x ⊎ In ys x
  in_either [] ys x h = inr h
  in_either (z ∷ xs) ys x (inl e) = inl (inl e)
  in_either (z ∷ xs) ys x (inr h) = elim (in_either xs ys x h) [ inl g ↦ inl (inr g) | inr g ↦ inr g ]

  pub apart_append : (xs ys : List X) → Apart xs → Apart ys → ((x : X) → In xs x → In ys x → ⊥) → Apart (xs ++ ys)
  apart_append [] ys a b d = b
  apart_append (x ∷ xs) ys a b d = (
    λ h. elim (in_either xs ys x h) [ inl g ↦ a.0 g | inr g ↦ d x (inl refl) g ],
    apart_append xs ys a.1 b (λ y h g. d y (inr h) g),
  )
