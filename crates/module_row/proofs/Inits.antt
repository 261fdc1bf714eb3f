-- The inits of the overrides, as they are read off.
use Rattle.std.proofs.Common.{◌≡◌, ℕ, zero, suc, ◌+◌, ◌<◌, List, [], ◌∷◌, ◌++◌, map, length, take, get_or, flat_map, slice_get, Some, refl, sym, ap, ◌∙◌, arith, append-nil}
use Rattle.std.proofs.lemmas.Grind.{flat_map-append}
use Rattle.std.proofs.lemmas.List.{length-map, map-append}
use Rattle.std.proofs.lemmas.Option.{slice_get-get_or}
use Rattle.walk.proofs.Places.{one_more}
use Rattle.rules.specs.Items.{at}
use Rattle.promises.proofs.Among.{at_is}

-- what comes of the element with a number, in two lists that are told alike
module _ {X Y Z : Type 0} (f : X → List Z) (g : Y → List Z) where
  one_told : (xs : List X) (ys : List Y) (n : ℕ) → map f xs ≡ map g ys → flat_map f (at xs n) ≡ flat_map g (at ys n)
  one_told [] [] n e = refl
  one_told [] (y ∷ ys) n e = absurd cc
  one_told (x ∷ xs) [] n e = absurd cc
  one_told (x ∷ xs) (y ∷ ys) zero e = let h : f x ≡ g y = cc in ap (λ l. l ++ []) h
  one_told (x ∷ xs) (y ∷ ys) (suc n) e = let t : map f xs ≡ map g ys = cc in one_told xs ys n t

  pub all_told : (xs : List X) (ys : List Y) → map f xs ≡ map g ys → (ns : List ℕ) → flat_map f (flat_map (at xs) ns) ≡ flat_map g (flat_map (at ys) ns)
  all_told xs ys e [] = refl
  all_told xs ys e (n ∷ ns) =
      flat_map-append f (at xs n) (flat_map (at xs) ns)
      ∙ ap (λ l. l ++ flat_map f (flat_map (at xs) ns)) (one_told xs ys n e)
      ∙ ap (λ l. flat_map g (at ys n) ++ l) (all_told xs ys e ns)
      ∙ sym (flat_map-append g (at ys n) (flat_map (at ys) ns))

  pub as_long : (xs : List X) (ys : List Y) → map f xs ≡ map g ys → length xs ≡ length ys
  as_long xs ys e =
      let a : length (map f xs) ≡ length xs = length-map _ _ in
      let b : length (map g ys) ≡ length ys = length-map _ _ in
      let s = ap length e in
      omega arith

-- what is read at one number
pub read_at : {X Z : Type 0} (f : X → List Z) (xs : List X) (n : ℕ) (d : X) → n < length xs → flat_map f (flat_map (at xs) (n ∷ [])) ≡ f (get_or xs n d)
read_at f xs n d l = ap (flat_map f) (append-nil (at xs n) ∙ at_is xs n (get_or xs n d) (slice_get-get_or xs n d l)) ∙ append-nil (f (get_or xs n d))

-- one more item
pub mapped_more : {X Y : Type 0} (f : X → Y) (xs : List X) (n : ℕ) (x : X) → slice_get xs n ≡ Some x → map f (take n xs) ++ f x ∷ [] ≡ map f (take (n + 1) xs)
mapped_more f xs n x e = sym (ap (map f) (one_more xs n x e) ∙ map-append f (take n xs) (x ∷ []))
