-- What it gives that every test of a list passes, and what makes every one pass.
use Rattle.std.proofs.Common.{◌≡◌, ℕ, zero, suc, ◌+◌, ◌<◌, Bool, true, false, cond, List, [], ◌∷◌, ◌++◌, map, slice_get, flat_map, Some, None, Option, refl, subst, arith, ltb-true, lt-ltb}
use Rattle.std.specs.List.{AllByRecursion}
use Rattle.ir.specs.declared.handle.Table.{Table}
use Rattle.rules.specs.declared.faults.Rule.{Rule}
use Rattle.rules.specs.declared.faults.Fault.{Fault}
use Rattle.rules.specs.Fault.{Test, first, earlier, numbered, numbered_from}
use Rattle.rules.specs.Verdict.{AllHold}

no_fault : (b : Bool) (f : Fault) (o : Option Fault) → cond b o (Some f) ≡ None → (b ≡ true) × (o ≡ None)
no_fault true f o e = (refl, e)
no_fault false f o e = absurd cc

pub hold_from_none : (ts : List Test) → first ts ≡ None → AllHold ts
hold_from_none [] e = tt
hold_from_none (t ∷ ts) e = let r = no_fault t.passes t.fault (first ts) e in (r.0, hold_from_none ts r.1)

pub none_from_hold : (ts : List Test) → AllHold ts → first ts ≡ None
none_from_hold [] h = refl
none_from_hold (t ∷ ts) h = rw (h.0, none_from_hold ts h.1)

module _ {X : Type 0} (P : X → Type 0) where
  pub all_left : (xs ys : List X) → AllByRecursion P (xs ++ ys) → AllByRecursion P xs
  all_left [] ys h = tt
  all_left (x ∷ xs) ys h = (h.0, all_left xs ys h.1)

  pub all_right : (xs ys : List X) → AllByRecursion P (xs ++ ys) → AllByRecursion P ys
  all_right [] ys h = h
  all_right (x ∷ xs) ys h = all_right xs ys h.1

pub hold_left : (a b : List Test) → AllHold (a ++ b) → AllHold a
hold_left a b h = all_left (λ t. t.passes ≡ true) a b h

pub hold_right : (a b : List Test) → AllHold (a ++ b) → AllHold b
hold_right a b h = all_right (λ t. t.passes ≡ true) a b h

-- the tests of each item of a list
pub hold_each : {X : Type 0} (f : X → List Test) (xs : List X) → AllHold (flat_map f xs) → AllByRecursion (λ x. AllHold (f x)) xs
hold_each f [] h = tt
hold_each f (x ∷ xs) h = (hold_left (f x) (flat_map f xs) h, hold_each f xs (hold_right (f x) (flat_map f xs) h))

hold_counted : {X : Type 0} (f : ℕ → X → List Test) (n : ℕ) (xs : List X) → AllHold (numbered_from f n xs) → (k : ℕ) (x : X) → slice_get xs k ≡ Some x → (j : ℕ) → n + k ≡ j → AllHold (f j x)
hold_counted f n [] h k x s j e = absurd cc
hold_counted f n (y ∷ xs) h zero x s j e =
    let at : n ≡ j = omega arith in
    let same : y ≡ x = cc in
    subst (λ z. AllHold (f j z)) same (subst (λ z. AllHold (f z y)) at (hold_left (f n y) (numbered_from f (suc n) xs) h))
hold_counted f n (y ∷ xs) h (suc k) x s j e = hold_counted f (suc n) xs (hold_right (f n y) (numbered_from f (suc n) xs) h) k x s j (omega arith)

-- the tests of the item with a number
pub hold_numbered : {X : Type 0} (f : ℕ → X → List Test) (xs : List X) → AllHold (numbered f xs) → (k : ℕ) (x : X) → slice_get xs k ≡ Some x → AllHold (f k x)
hold_numbered f xs h k x s = hold_counted f 0 xs h k x s k (omega arith)

-- what the tests of each numbered item give of the item
pub all_numbered : {X : Type 0} (P : X → Type 0) (f : ℕ → X → List Test) → ((k : ℕ) (x : X) → AllHold (f k x) → P x) → (n : ℕ) (xs : List X) → AllHold (numbered_from f n xs) → AllByRecursion P xs
all_numbered P f each n [] h = tt
all_numbered P f each n (x ∷ xs) h = (each n x (hold_left (f n x) (numbered_from f (suc n) xs) h), all_numbered P f each (suc n) xs (hold_right (f n x) (numbered_from f (suc n) xs) h))

-- numbers that pass as earlier are below
pub below_from_hold : (r : Rule) (t : Table) (n place : ℕ) (xs : List ℕ) → AllHold (map (earlier r t n place) xs) → AllByRecursion (λ x. x < n) xs
below_from_hold r t n place [] h = tt
below_from_hold r t n place (x ∷ xs) h = (ltb-true x n h.0, below_from_hold r t n place xs h.1)

pub hold_from_below : (r : Rule) (t : Table) (n place : ℕ) (xs : List ℕ) → AllByRecursion (λ x. x < n) xs → AllHold (map (earlier r t n place) xs)
hold_from_below r t n place [] h = tt
hold_from_below r t n place (x ∷ xs) h = (lt-ltb x n h.0, hold_from_below r t n place xs h.1)
