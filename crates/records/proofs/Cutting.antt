-- One part of an image and what is left.
use Rattle.std.proofs.Common.{◌≡◌, ℕ, zero, suc, ◌<◌, ◌≤◌, min, false, List, [], ◌∷◌, ◌++◌, length, take, drop, is_ok, Some, None, Option, sym, refl, ap, ◌∙◌, inl, inr, one-add, arith, length-drop, take-append-drop, length-take}
use native.Mathlib.Nat.{min-eq_left, min-eq_right}
use Rattle.std.proofs.lemmas.Bool.{cases_lt, eq-eqb, both_ways}
use Rattle.std.proofs.lemmas.List.{drop_all}
use Rattle.std.specs.List.{flat_map}
use Rattle.ir.specs.declared.kinds.Kind.{Kind}
use Rattle.ir.specs.Layout.{layout, size_of}
use Rattle.ir.specs.Number.{kind_of}
use Rattle.records.specs.Record.{body_of}
use Rattle.records.specs.Image.{body_size, front_size, split_in, split, Cut}

left_after : (byte : ℕ) (body : List ℕ) → length (drop (front_size (byte ∷ body)) (byte ∷ body)) ≤ length body
left_after byte body = simp length-drop (omega arith)

-- as many turns as there are bytes are enough
enough : (n m : ℕ) (image : List ℕ) → length image ≤ n → length image ≤ m → split_in n image ≡ split_in m image
enough zero zero image p q = refl
enough zero (suc m) [] p q = refl
enough zero (suc m) (byte ∷ body) p q = absurd (omega arith)
enough (suc n) zero [] p q = refl
enough (suc n) zero (byte ∷ body) p q = absurd (omega arith)
enough (suc n) (suc m) [] p q = refl
enough (suc n) (suc m) (byte ∷ body) p q =
    let left = left_after byte body in
    ap (λ (parts : List (List ℕ)). take (front_size (byte ∷ body)) (byte ∷ body) ∷ parts) (enough n m (drop (front_size (byte ∷ body)) (byte ∷ body)) (omega arith) (omega arith))

split_more : (image : List ℕ) → 0 < length image → split image ≡ take (front_size image) image ∷ split (drop (front_size image) image)
unfolding split
split_more [] some = absurd (omega arith)
split_more (byte ∷ body) some =
    let left = left_after byte body in
    ap (λ (parts : List (List ℕ)). take (front_size (byte ∷ body)) (byte ∷ body) ∷ parts) (enough (length body) _ (drop (front_size (byte ∷ body)) (byte ∷ body)) left (omega arith))

pub split_none : split [] ≡ []
unfolding split
split_none = refl

-- a part that is no record ends the image
ends_with : (o : Option Kind) (body : List ℕ) → is_ok (body_of o (take (body_size o (length body)) body)) ≡ false → drop (body_size o (length body)) body ≡ []
ends_with None body bad = drop_all (length body) body (omega arith)
ends_with (Some k) body bad =
    elim (cases_lt (length body) (size_of (layout k))) [
      | inl short ↦ let is : min (size_of (layout k)) (length body) ≡ length body = min-eq_right (omega arith) in drop_all _ body (omega arith)
      | inr room ↦
          let is : min (size_of (layout k)) (length body) ≡ size_of (layout k) = min-eq_left room in
          let long : length (take (min (size_of (layout k)) (length body)) body) ≡ size_of (layout k) = simp length-take (omega arith) in
          absurd (both_ways _ bad (rw (eq-eqb _ _ long)))
    ]

pub cut_is : (image front rest : List ℕ) {n : ℕ} → 0 < length image → n ≡ front_size image → front ≡ take n image → rest ≡ drop n image → Cut image front rest
cut_is [] front rest some size is_front is_rest = absurd (omega arith)
cut_is (byte ∷ body) front rest {n} some size is_front is_rest =
    let left = left_after byte body in
    rw (is_front, is_rest, size) (record {
      first = split_more (byte ∷ body) some;
      whole = sym (take-append-drop (front_size (byte ∷ body)) (byte ∷ body));
      shorter = omega arith;
      last = rw (one-add (body_size (kind_of byte) (length body))) (ends_with (kind_of byte) body);
    })

-- the parts put together again
joined_in : (n : ℕ) (image : List ℕ) → length image ≤ n → flat_map (λ part. part) (split_in n image) ≡ image
joined_in zero [] h = refl
joined_in zero (byte ∷ body) h = absurd (omega arith)
joined_in (suc n) [] h = refl
joined_in (suc n) (byte ∷ body) h =
    let left = left_after byte body in
    ap (λ (later : List ℕ). take (front_size (byte ∷ body)) (byte ∷ body) ++ later) (joined_in n (drop (front_size (byte ∷ body)) (byte ∷ body)) (omega arith)) ∙ take-append-drop (front_size (byte ∷ body)) (byte ∷ body)

pub joined_split : (image : List ℕ) → flat_map (λ part. part) (split image) ≡ image
unfolding split
joined_split image = joined_in (length image) image (omega arith)
