-- The first fault of one list of tests after another.
use Rattle.std.proofs.Common.{◌≡◌, ℕ, zero, suc, ◌+◌, ◌<◌, Bool, true, false, cond, List, [], ◌∷◌, ◌++◌, length, drop, slice_get, flat_map, Some, None, Option, sym, refl, ap, ◌∙◌, subst, append_assoc, arith}
use Rattle.std.specs.Option.{option_or}
use Rattle.rules.specs.declared.faults.Fault.{Fault}
use Rattle.rules.specs.Fault.{Test, first, numbered, numbered_from}
use Rattle.rules.specs.Verdict.{AllHold}
use Rattle.rules.proofs.Passing.{none_from_hold}

cond_else : (b : Bool) (f : Fault) (o p : Option Fault) → cond b (option_or o p) (Some f) ≡ option_or (cond b o (Some f)) p
cond_else true f o p = refl
cond_else false f o p = refl

-- of two lists: the fault of the first, and else that of the second
pub first_append : (a b : List Test) → first (a ++ b) ≡ option_or (first a) (first b)
first_append [] b = refl
first_append (t ∷ a) b = rw (first_append a b) (cond_else t.passes t.fault (first a) (first b))

-- tests that pass, in front of others
pub passed : (a b : List Test) → first a ≡ None → first (a ++ b) ≡ first b
passed a b none = rw (first_append a b, none)

-- after a fault the later tests do not matter
pub stopped : (a b : List Test) (f : Fault) → first a ≡ Some f → first (a ++ b) ≡ Some f
stopped a b f some = rw (first_append a b, some)

either_same : (o p q r : Option Fault) → o ≡ p → (o ≡ None → q ≡ r) → option_or o q ≡ option_or p r
either_same None p q r e f = rw (← e) (f refl)
either_same (Some a) p q r e f = rw (← e)

-- lists with the same first fault; what follows may differ where they have one
pub then_same : (x y u v : List Test) → first x ≡ first y → (first x ≡ None → first u ≡ first v) → first (x ++ u) ≡ first (y ++ v)
then_same x y u v e f = first_append x u ∙ either_same (first x) (first y) (first u) (first v) e f ∙ sym (first_append y v)

-- what follows the same tests
pub after_same : (x u v : List Test) → first u ≡ first v → first (x ++ u) ≡ first (x ++ v)
after_same x u v e = then_same x x u v refl (λ none. e)

pub each_same : {X : Type 0} (f g : X → List Test) (xs : List X) → ((x : X) → first (f x) ≡ first (g x)) → first (flat_map f xs) ≡ first (flat_map g xs)
each_same f g [] e = refl
each_same f g (x ∷ xs) e = then_same (f x) (g x) (flat_map f xs) (flat_map g xs) (e x) (λ none. each_same f g xs e)

-- the first k of the items have tests that pass
skip_counted : {X : Type 0} (f : ℕ → X → List Test) (k n j : ℕ) (xs : List X) → n + k ≡ j → ((x : ℕ) (i : X) (y : ℕ) → slice_get xs x ≡ Some i → x < k → n + x ≡ y → AllHold (f y i)) → first (numbered_from f n xs) ≡ first (numbered_from f j (drop k xs))
skip_counted f zero n j xs e h = let same : n ≡ j = omega arith in ap (λ z. first (numbered_from f z xs)) same
skip_counted f (suc k) n j [] e h = refl
skip_counted f (suc k) n j (x ∷ xs) e h =
    passed (f n x) (numbered_from f (suc n) xs) (none_from_hold (f n x) (h 0 x n refl (omega arith) (omega arith)))
    ∙ skip_counted f k (suc n) j xs (omega arith) (λ y i z s l q. h (suc y) i z s (omega arith) (omega arith))

pub skip_front : {X : Type 0} (f : ℕ → X → List Test) (k : ℕ) (xs : List X) → ((x : ℕ) (i : X) → slice_get xs x ≡ Some i → x < k → AllHold (f x i)) → first (numbered f xs) ≡ first (numbered_from f k (drop k xs))
skip_front f k xs h = skip_counted f k 0 k xs (omega arith) (λ x i y s l q. let same : x ≡ y = omega arith in subst (λ z. AllHold (f z i)) same (h x i s l))

-- tests that ask for no number
pub unnumbered : {X : Type 0} (f : X → List Test) (n : ℕ) (xs : List X) → numbered_from (λ _ x. f x) n xs ≡ flat_map f xs
unnumbered f n [] = refl
unnumbered f n (x ∷ xs) = ap (λ l. f x ++ l) (unnumbered f (suc n) xs)

-- the tests of the items of two lists, counted on
pub numbered_append : {X : Type 0} (tests : ℕ → X → List Test) (n : ℕ) (xs ys : List X) → numbered_from tests n (xs ++ ys) ≡ numbered_from tests n xs ++ numbered_from tests (n + length xs) ys
numbered_append tests n [] ys = let same : n ≡ n + 0 = omega arith in ap (λ k. numbered_from tests k ys) same
numbered_append tests n (x ∷ xs) ys =
    let same : suc n + length xs ≡ n + suc (length xs) = omega arith in
    ap (λ l. tests n x ++ l) (numbered_append tests (suc n) xs ys ∙ ap (λ k. numbered_from tests (suc n) xs ++ numbered_from tests k ys) same)
    ∙ sym (append_assoc (tests n x) (numbered_from tests (suc n) xs) (numbered_from tests (n + suc (length xs)) ys))

-- item by item: what is left where an item's tests pass, and the fault where they do not
module _ {X : Type 0} (i : X) (all rest : List X) (is : all ≡ i ∷ rest) where
  module _ (tests : X → List Test) where
    pub item_passed : first (tests i) ≡ None → first (flat_map tests all) ≡ first (flat_map tests rest)
    item_passed none = ap (λ l. first (flat_map tests l)) is ∙ passed (tests i) (flat_map tests rest) none

    pub item_stopped : (f : Fault) → first (tests i) ≡ Some f → first (flat_map tests all) ≡ Some f
    item_stopped f some = ap (λ l. first (flat_map tests l)) is ∙ stopped (tests i) (flat_map tests rest) f some

  -- the same, where an item's tests are told its number
  module _ (tests : ℕ → X → List Test) (n : ℕ) where
    pub numbered_passed : first (tests n i) ≡ None → first (numbered_from tests n all) ≡ first (numbered_from tests (suc n) rest)
    numbered_passed none = ap (λ l. first (numbered_from tests n l)) is ∙ passed (tests n i) (numbered_from tests (suc n) rest) none

    pub numbered_stopped : (f : Fault) → first (tests n i) ≡ Some f → first (numbered_from tests n all) ≡ Some f
    numbered_stopped f some = ap (λ l. first (numbered_from tests n l)) is ∙ stopped (tests n i) (numbered_from tests (suc n) rest) f some

-- the fault of an item's tests, or that of the later items
pub item_first : {X : Type 0} (tests : X → List Test) (i : X) (all rest : List X) → all ≡ i ∷ rest → first (flat_map tests all) ≡ option_or (first (tests i)) (first (flat_map tests rest))
item_first tests i all rest is = ap (λ l. first (flat_map tests l)) is ∙ first_append (tests i) (flat_map tests rest)

pub numbered_first : {X : Type 0} (tests : ℕ → X → List Test) (n : ℕ) (i : X) (all rest : List X) → all ≡ i ∷ rest → first (numbered_from tests n all) ≡ option_or (first (tests n i)) (first (numbered_from tests (suc n) rest))
numbered_first tests n i all rest is = ap (λ l. first (numbered_from tests n l)) is ∙ first_append (tests n i) (numbered_from tests (suc n) rest)
