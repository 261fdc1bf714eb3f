-- One walk in a list of calls.
use Rattle.std.proofs.Common.{◌≡◌, ℕ, zero, suc, ◌+◌, ◌<◌, ◌≤◌, min, Bool, true, false, cond, nat_lt, List, [], ◌∷◌, ◌++◌, length, take, drop, Some, None, Option, Ok, Err, Result, refl, sym, ap, ◌∙◌, subst, arith, ltb-true, ltb-false}
use native.Mathlib.Nat.{min-le_right}
use Rattle.std.specs.List.{AllByRecursion, slice_get}
use Rattle.std.proofs.lemmas.List.{take-append-drop, take-append-le, drop-append-le, length-take-le}
use Rattle.std.proofs.lemmas.Option.{same_Some}
use Rattle.node.specs.Nodes.{Node}
use Rattle.node.specs.Late.{first_late, late_or, first_late_from, first_late_of}
use Rattle.node.specs.declared.earlier.Late.{Late}
use Rattle.walk.specs.declared.walk.WalkRefusal.TheVariants.{TooFewPlaces}
use Rattle.walk.specs.Steps.{Steps}
use Rattle.walk.specs.Rule.{OperandsEarlier, TheValues}
use Rattle.walk.specs.Leaves.{placed, Leaves}
use Rattle.history.specs.declared.calls.Denial.{Denial}
use Rattle.history.specs.declared.calls.Denial.TheVariants.{Refused}

-- a table that passes the test has earlier operands only
pass_when : (b : Bool) (x : ℕ) (o : Option ℕ) → cond b o (Some x) ≡ None → (b ≡ true) × (o ≡ None)
pass_when true x o e = (refl, e)
pass_when false x o e = absurd cc

each_below : (item : ℕ) (ks : List ℕ) → first_late item ks ≡ None → AllByRecursion (λ k. k < item) ks
each_below item [] e = tt
each_below item (k ∷ ks) e = let p = pass_when (nat_lt k item) k (first_late item ks) e in (ltb-true k item p.0, each_below item ks p.1)

both_none : (item : ℕ) (o : Option ℕ) (rest : Option Late) → late_or item o rest ≡ None → (o ≡ None) × (rest ≡ None)
both_none item None rest e = (refl, e)
both_none item (Some x) rest e = absurd cc

earlier_from : (item : ℕ) (nodes : List Node) → first_late_from item nodes ≡ None → (n : ℕ) (x : Node) → slice_get nodes n ≡ Some x → AllByRecursion (λ k. k < item + n) x.operands
earlier_from item [] e n x is = absurd cc
earlier_from item (y ∷ nodes) e zero x is =
    let p = both_none item (first_late item y.operands) (first_late_from (suc item) nodes) e in
    let at : item ≡ item + 0 = omega arith in
    subst (λ i. AllByRecursion (λ k. k < i) x.operands) at (subst (λ (z : Node). AllByRecursion (λ k. k < item) z.operands) (same_Some y x is) (each_below item y.operands p.0))
earlier_from item (y ∷ nodes) e (suc n) x is =
    let p = both_none item (first_late item y.operands) (first_late_from (suc item) nodes) e in
    let at : suc item + n ≡ item + suc n = omega arith in
    subst (λ i. AllByRecursion (λ k. k < i) x.operands) at (earlier_from (suc item) nodes p.1 n x is)

pub tested_earlier : (nodes : List Node) → first_late_of nodes ≡ None → OperandsEarlier nodes
tested_earlier nodes e n x is = let at : 0 + n ≡ n = omega arith in subst (λ i. AllByRecursion (λ k. k < i) x.operands) at (earlier_from 0 nodes e n x is)

-- a walk in the first values is one of all, where those behind stay
module _ {W V : Type 0} (s : Steps W V) (before first : List V) (n : ℕ) (all : n ≤ length before) (long : length first ≡ n) where
  whole : first ≡ take n before → first ++ drop n before ≡ before
  whole e = ap (λ l. l ++ drop n before) e ∙ take-append-drop n before

  beyond : (k : ℕ) → k ≤ n → drop k first ≡ drop k (take n before) → drop k (first ++ drop n before) ≡ drop k before
  beyond k l e =
      drop-append-le k first (drop n before) (omega arith)
      ∙ ap (λ r. r ++ drop n before) e
      ∙ sym (drop-append-le k (take n before) (drop n before) (let t = length-take-le n before all in omega arith))
      ∙ ap (drop k) (take-append-drop n before)

  placed_when : (nodes : List Node) (b : Bool) → nat_lt n (length nodes) ≡ b → Leaves s (cond b (Err (Refused TooFewPlaces)) (Ok nodes)) (take n before) first → Leaves s (cond b (Err (Refused TooFewPlaces)) (Ok nodes)) before (first ++ drop n before)
  placed_when nodes true e same = whole same
  placed_when nodes false e v =
      let fits : length nodes ≤ n = ltb-false n (length nodes) e in
      record {
        theirs = subst (λ l. TheValues s nodes l) (sym (take-append-le (length nodes) first (drop n before) (omega arith))) v.theirs;
        beyond = beyond (length nodes) fits v.beyond;
      }

  pub behind_stay : (p : Result (List Node) Denial) → Leaves s (placed Refused n p) (take n before) first → Leaves s (placed Refused n p) before (first ++ drop n before)
  behind_stay (Err e) same = whole same
  behind_stay (Ok nodes) v = placed_when nodes (nat_lt n (length nodes)) refl v

pub lent : {W V : Type 0} (s : Steps W V) (before first : List V) (n m : ℕ) (p q : Result (List Node) Denial) → n ≡ min m (length before) → length first ≡ length (take n before) → p ≡ q → Leaves s (placed Refused (length (take n before)) p) (take n before) first → Leaves s (placed Refused (min m (length before)) q) before (first ++ drop n before)
lent s before first n m p q is long same v =
    let right = min-le_right m (length before) in
    let all : n ≤ length before = omega arith in
    let taken : length (take n before) ≡ n = length-take-le n before all in
    subst (λ o. Leaves s (placed Refused (min m (length before)) o) before (first ++ drop n before)) same
    (subst (λ k. Leaves s (placed Refused k p) before (first ++ drop n before)) is
    (behind_stay s before first n all (long ∙ taken) p (subst (λ k. Leaves s (placed Refused k p) (take n before) first) taken v)))
