-- What is among the elements of a list, and among the numbers that handles name.
use Rattle.std.proofs.Common.{◌≡◌, ℕ, zero, suc, ◌<◌, ◌≤◌, Bool, true, false, cond, List, [], ◌∷◌, map, take, slice_get, flat_map, Some, refl, sym, ap, ◌∙◌, subst, inl, inr, arith}
use Rattle.std.specs.List.{AllByRecursion}
use Rattle.std.proofs.lemmas.Option.{same_Some}
use Rattle.ir.specs.declared.handle.Table.{Table}
use Rattle.ir.specs.declared.handle.Table.TheVariants as table
use Rattle.ir.specs.declared.handle.Handle.{Handle}
use Rattle.ir.specs.Handle.{named, index_of}
use Rattle.rules.specs.Items.{is_of, numbers, at}
use Rattle.row.proofs.Places.{In, in_left, in_right, in_either}
use Rattle.promises.specs.Rows.{above}

module _ {X : Type 0} where
  pub in_all : (P : X → Type 0) (xs : List X) (x : X) → AllByRecursion P xs → In xs x → P x
  in_all P [] x a h = absurd h
  in_all P (y ∷ ys) x a (inl e) = subst P e a.0
  in_all P (y ∷ ys) x a (inr h) = in_all P ys x a.1 h

  pub all_in : (P : X → Type 0) (xs : List X) → ((x : X) → In xs x → P x) → AllByRecursion P xs
  all_in P [] f = tt
  all_in P (y ∷ ys) f = (f y (inl refl), all_in P ys (λ x h. f x (inr h)))

  pub in_flat : {Y : Type 0} (f : X → List Y) (xs : List X) (x : X) (y : Y) → In xs x → In (f x) y → In (flat_map f xs) y
  in_flat f [] x y h g = absurd h
  in_flat f (z ∷ xs) x y (inl e) g = in_left (f z) (flat_map f xs) y (subst (λ w. In (f w) y) (sym e) g)
  in_flat f (z ∷ xs) x y (inr h) g = in_right (f z) (flat_map f xs) y (in_flat f xs x y h g)

  pub from_flat : {Y : Type 0} (f : X → List Y) (xs : List X) (y : Y) → In (flat_map f xs) y → (x : X) × In xs x × In (f x) y
  from_flat f [] y h = absurd h
  from_flat f (z ∷ xs) y h =
      elim (in_either (f z) (flat_map f xs) y h) [
        | inl g ↦ (z, inl refl, g)
        | inr g ↦ let r = from_flat f xs y g in (r.0, inr r.1, r.2)
      ]

  pub in_map : {Y : Type 0} (f : X → Y) (xs : List X) (x : X) → In xs x → In (map f xs) (f x)
  in_map f [] x h = absurd h
  in_map f (z ∷ xs) x (inl e) = inl (ap f e)
  in_map f (z ∷ xs) x (inr h) = inr (in_map f xs x h)

  pub from_map : {Y : Type 0} (f : X → Y) (xs : List X) (y : Y) → In (map f xs) y → (x : X) × In xs x × (f x ≡ y)
  from_map f [] y h = absurd h
  from_map f (z ∷ xs) y (inl e) = (z, inl refl, e)
  from_map f (z ∷ xs) y (inr h) = let r = from_map f xs y h in (r.0, inr r.1, r.2)

  pub at_is : (xs : List X) (n : ℕ) (x : X) → slice_get xs n ≡ Some x → at xs n ≡ x ∷ []
  at_is [] n x e = absurd cc
  at_is (y ∷ xs) zero x e = ap (λ z. z ∷ []) (same_Some y x e)
  at_is (y ∷ xs) (suc n) x e = at_is xs n x e

  pub get_below : (xs : List X) (n k : ℕ) (x : X) → slice_get (take n xs) k ≡ Some x → k < n
  get_below xs zero k x e = absurd cc
  get_below [] (suc n) k x e = absurd cc
  get_below (y ∷ xs) (suc n) zero x e = omega arith
  get_below (y ∷ xs) (suc n) (suc k) x e = let l = get_below xs n k x e in omega arith

named_of : (t : Table) (n : ℕ) → is_of t (named t n) ≡ true
named_of table.Types n = refl
named_of t n = refl

named_index : (t : Table) (n : ℕ) → index_of (named t n) ≡ n
named_index table.Types n = refl
named_index t n = refl

-- a handle's number is among those that its table's handles name
module _ (t : Table) (n : ℕ) where
  first_number : (b : Bool) (k : ℕ) (ns : List ℕ) → b ≡ true → k ≡ n → In (cond b (k ∷ ns) ns) n
  first_number true k ns e i = inl i
  first_number false k ns e i = absurd cc

  later_number : (b : Bool) (k : ℕ) (ns : List ℕ) → In ns n → In (cond b (k ∷ ns) ns) n
  later_number true k ns h = inr h
  later_number false k ns h = h

  pub in_numbers : (hs : List Handle) → In hs (named t n) → In (numbers t hs) n
  in_numbers [] h = absurd h
  in_numbers (g ∷ hs) (inl e) = first_number (is_of t g) (index_of g) (numbers t hs) (ap (is_of t) e ∙ named_of t n) (ap index_of e ∙ named_index t n)
  in_numbers (g ∷ hs) (inr h) = later_number (is_of t g) (index_of g) (numbers t hs) (in_numbers hs h)

-- the least number above some
pub above_over : (ns : List ℕ) (n : ℕ) → In ns n → n < above ns
above_over [] n h = absurd h
above_over (k ∷ ns) n (inl e) = omega arith
above_over (k ∷ ns) n (inr h) = let l = above_over ns n h in omega arith

pub above_under : (ns : List ℕ) (b : ℕ) → ((n : ℕ) → In ns n → n < b) → above ns ≤ b
above_under [] b f = omega arith
above_under (k ∷ ns) b f = let l = above_under ns b (λ n h. f n (inr h)) in let u = f k (inl refl) in omega arith
