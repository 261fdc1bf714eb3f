-- Which type a list knows: the lowest number of an equal one, which stays as the list grows.
use Rattle.std.proofs.Common.{◌≡◌, ℕ, suc, ◌+◌, true, List, [], ◌∷◌, length, Some, None, sym, refl, ap, ◌∙◌, ⊎_elim, arith}
use Rattle.std.specs.List.{slice_get}
use Rattle.std.proofs.lemmas.Bool.{cond-true, cond-false, cases_Bool}
use Rattle.rules.specs.Module.{Item}
use Rattle.arena.specs.Put.{equal_items, known_from}
use Rattle.runs.proofs.Keeping.{Keeps}

-- what is known stays so
pub known_stays : (k : ℕ) (xs ys : List Item) (i : Item) (n : ℕ) → Keeps xs ys → known_from k xs i ≡ Some n → known_from k ys i ≡ Some n
known_stays k [] ys i n on e = absurd cc
known_stays k (x ∷ xs) [] i n on e = let bad : None ≡ Some x = on 0 x refl in absurd cc
known_stays k (x ∷ xs) (y ∷ ys) i n on e =
    let first : Some y ≡ Some x = on 0 x refl in
    let same : equal_items y i ≡ equal_items x i = cc in
    ⊎_elim
    (λ here. cond-true _ _ _ (same ∙ here) ∙ sym (cond-true _ _ _ here) ∙ e)
    (λ apart. cond-false _ _ _ (same ∙ apart) ∙ known_stays (k + 1) xs ys i n (λ p. on (suc p)) (sym (cond-false _ _ _ apart) ∙ e))
    (cases_Bool (equal_items x i))

-- what is not known is once an equal item comes next
pub known_next : (k : ℕ) (xs ys : List Item) (x i : Item) → Keeps xs ys → slice_get ys (length xs) ≡ Some x → equal_items x i ≡ true → known_from k xs i ≡ None → known_from k ys i ≡ Some (k + length xs)
known_next k [] [] x i on at same e = absurd cc
known_next k [] (y ∷ ys) x i on at same e = let first : equal_items y i ≡ equal_items x i = cc in cond-true _ _ _ (first ∙ same) ∙ (let z : k ≡ k + 0 = omega arith in ap Some z)
known_next k (w ∷ xs) [] x i on at same e = let bad : None ≡ Some w = on 0 w refl in absurd cc
known_next k (w ∷ xs) (y ∷ ys) x i on at same e =
    let first : Some y ≡ Some w = on 0 w refl in
    let like : equal_items y i ≡ equal_items w i = cc in
    ⊎_elim
    (λ here. let bad : Some k ≡ None = sym (cond-true _ _ _ here) ∙ e in absurd cc)
    (λ apart. cond-false _ _ _ (like ∙ apart) ∙ known_next (k + 1) xs ys x i (λ p. on (suc p)) at same (sym (cond-false _ _ _ apart) ∙ e) ∙ (let z : k + 1 + length xs ≡ k + suc (length xs) = omega arith in ap Some z))
    (cases_Bool (equal_items w i))

-- a known number is that of an equal item
pub known_names : (k : ℕ) (xs : List Item) (i : Item) (n : ℕ) → known_from k xs i ≡ Some n → (p : ℕ) × (x : Item) × (n ≡ k + p) × (slice_get xs p ≡ Some x) × (equal_items x i ≡ true)
known_names k [] i n e = absurd cc
known_names k (x ∷ xs) i n e =
    ⊎_elim
    (λ same. let w : Some k ≡ Some n = sym (cond-true _ _ _ same) ∙ e in let v : k ≡ n = cc in (0, x, (let z : n ≡ k + 0 = omega arith in z), refl, same))
    (λ apart. let q = known_names (k + 1) xs i n (sym (cond-false _ _ _ apart) ∙ e) in (suc q.0, q.1, (let f : n ≡ k + 1 + q.0 = q.2 in let z : n ≡ k + suc q.0 = omega arith in z), q.3, q.4))
    (cases_Bool (equal_items x i))

-- where an item stands makes no difference to what equals it
pub known_like : (k : ℕ) (xs : List Item) (i j : Item) → i.bytes ≡ j.bytes → i.taken ≡ j.taken → known_from k xs i ≡ known_from k xs j
known_like k [] i j e f = refl
known_like k (x ∷ xs) i j e f =
    let same : equal_items x i ≡ equal_items x j = cc in
    let rest : known_from (k + 1) xs i ≡ known_from (k + 1) xs j = known_like (k + 1) xs i j e f in
    cc
