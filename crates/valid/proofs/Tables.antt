-- The tables of the module, as they are looked up and counted.
use Rattle.std.proofs.Common.{◌≡◌, ℕ, zero, suc, ◌<◌, List, [], ◌∷◌, length, Some, None, Option, MatchOption, sym, ap, ◌∙◌, subst, arith, append-nil}
use Rattle.std.specs.List.{slice_get, flat_map}
use Rattle.rules.specs.Fault.{Test, first}
use Rattle.rules.specs.Items.{at}
use Rattle.std.specs.Option.{IsSome}
use Rattle.std.proofs.lemmas.Bool.{some_since}
use Rattle.std.proofs.lemmas.Option.{MatchOption-at_some, same_Some}

none_within : {X : Type 0} (xs : List X) (n : ℕ) → n < length xs → slice_get xs n ≡ None → ⊥
none_within [] n l e = absurd (omega arith)
none_within (x ∷ xs) zero l e = absurd cc
none_within (x ∷ xs) (suc n) l e = none_within xs n (omega arith) e

-- what is found of the items of a table, whichever way the table is written
module _ {A B : Type 0} (shown : A → B) (xs ys : List B) (same : xs ≡ ys) (n : ℕ) (o : Option A) (found : MatchOption o (slice_get xs n ≡ None) (λ i. slice_get xs n ≡ Some (shown i))) where
  pub is_found : n < length ys → IsSome o
  is_found l = some_since o _ _ found (none_within xs n (subst (λ zs. n < length zs) (sym same) l))

  pub found_is : (i : A) → o ≡ Some i → slice_get ys n ≡ Some (shown i)
  found_is i e = ap (λ zs. slice_get zs n) (sym same) ∙ MatchOption-at_some _ _ i e found

-- what comes of the item with a number, where there is one
pub told_at : {X Y : Type 0} (f : X → List Y) (xs : List X) (n : ℕ) (x : X) → slice_get xs n ≡ Some x → flat_map f (at xs n) ≡ f x
told_at f [] n x e = absurd cc
told_at f (y ∷ xs) zero x e = append-nil (f y) ∙ ap f (same_Some y x e)
told_at f (y ∷ xs) (suc n) x e = told_at f xs n x e

pub tests_at : {X : Type 0} (tests : X → List Test) (xs : List X) (n : ℕ) (x : X) → slice_get xs n ≡ Some x → first (flat_map tests (at xs n)) ≡ first (tests x)
tests_at tests xs n x e = ap first (told_at tests xs n x e)
