-- For how many global expressions each type waits.
use Rattle.std.proofs.Common.{Bool, true, false, cond, nat_lt, ◌==◌, ltb-true, ltb-false, ◌≡◌, ℕ, zero, suc, ◌+◌, ◌≤◌, max, List, [], ◌∷◌, ◌++◌, length, take, slice_get, flat_map, get_or, Some, refl, sym, ap, ◌∙◌, arith, append-nil}
use Rattle.std.proofs.lemmas.Grind.{flat_map-append}
use Rattle.std.specs.Ordering.{ord_max, nat_cmp, is_lt}
use Rattle.std.specs.declared.cmp.Ordering.TheVariants.{Less, Equal, Greater}
use Rattle.walk.proofs.Places.{one_more}
use Rattle.rules.specs.Module.{Item, Module}
use Rattle.rules.specs.Once.{inits}
use Rattle.promises.specs.Rows.{above, room}
use Rattle.module_row.specs.Rooms.{rooms_of}
use Rattle.module_row.proofs.Counted.{counted_size, counted_at}

pub above_append : (xs ys : List ℕ) → above (xs ++ ys) ≡ max (above xs) (above ys)
above_append [] ys = omega arith
above_append (x ∷ xs) ys = let e = above_append xs ys in omega arith

-- what `max` of two numbers gives
module _ (a b : ℕ) where
  max_by : (p q : Bool) → nat_lt b a ≡ p → cond (is_lt (cond p Less (cond q Equal Greater))) a b ≡ max a b
  max_by true q e = let l = ltb-true b a e in omega arith
  max_by false true e = let l = ltb-false b a e in omega arith
  max_by false false e = let l = ltb-false b a e in omega arith

  pub max_is : ord_max nat_cmp a b ≡ max a b
  max_is = max_by (nat_lt b a) (b == a) refl

-- with one more item
above_more : {X : Type 0} (f : X → List ℕ) (xs : List X) (n : ℕ) (x : X) → slice_get xs n ≡ Some x → max (above (flat_map f (take n xs))) (above (f x)) ≡ above (flat_map f (take (suc n) xs))
above_more f xs n x e =
    let later : n + 1 ≡ suc n = omega arith in
    let more = sym (ap (λ k. take k xs) later) ∙ one_more xs n x e in
    let parts = flat_map-append f (take n xs) (x ∷ []) ∙ ap (λ l. flat_map f (take n xs) ++ l) (append-nil (f x)) in
    sym (ap (λ l. above (flat_map f l)) more ∙ ap above parts ∙ above_append (flat_map f (take n xs)) (f x))

module _ (m : Module) where
  pub room_next : (n : ℕ) (i : Item) → slice_get m.types n ≡ Some i → max (above (flat_map (inits m) (take n m.types))) (above (inits m i)) ≡ room m n
  room_next n i e = above_more (inits m) m.types n i e

  pub rooms_length : length (rooms_of m) ≡ length m.types
  rooms_length = counted_size (room m) 0 (length m.types)

  pub rooms_at : (j d : ℕ) → suc j ≤ length m.types → get_or (rooms_of m) j d ≡ room m j
  rooms_at j d l = let e : 0 + j ≡ j = omega arith in counted_at (room m) 0 (length m.types) j d l ∙ ap (room m) e

  -- no type waits for more than all of them
  front_least : {X : Type 0} (f : X → List ℕ) (xs : List X) (k : ℕ) → above (flat_map f (take k xs)) ≤ above (flat_map f xs)
  front_least f xs zero = omega arith
  front_least f [] (suc k) = omega arith
  front_least f (x ∷ xs) (suc k) =
      let l = front_least f xs k in
      let a = above_append (f x) (flat_map f (take k xs)) in
      let b = above_append (f x) (flat_map f xs) in
      omega arith

  pub room_least : (t : ℕ) → room m t ≤ above (flat_map (inits m) m.types)
  room_least t = front_least (inits m) m.types (suc t)
