-- In the order of their ranks items are a row.
use Rattle.std.proofs.Common.{◌≡◌, ℕ, zero, suc, ◌<◌, ◌≤◌, Bool, true, false, cond, nat_le, List, [], ◌∷◌, Some, slice_get, refl, sym, ap, inl, inr, arith}
use Rattle.std.proofs.lemmas.Bool.{leb-true, leb-false}
use Rattle.std.proofs.lemmas.Option.{same_Some}
use Rattle.row.specs.Row.{Has, IsRow, insert, sort, RankedIsRow}
use Rattle.row.proofs.Places.{In, Apart, in_from_get, in_from_has, has_from_in, once_from_apart, apart_from_once}

module _ {X : Type 0} (rank : X → ℕ) where
  abbrev pub Rising : List X → Type 0
  Rising [] = Unit {0}
  Rising (x ∷ xs) = ((y : X) → In xs y → rank x ≤ rank y) × Rising xs

  -- the list zs rises, and has what xs has, each once
  pub record Sorted (xs zs : List X) : Type 0 where
    pub rising : Rising zs
    pub apart : Apart zs
    pub back : (z : X) → In zs z → In xs z
    pub forth : (z : X) → In xs z → In zs z

  put_in : (b : Bool) (x y : X) (ys zs : List X) → nat_le (rank x) (rank y) ≡ b → Rising (y ∷ ys) → Apart (x ∷ y ∷ ys) → Sorted (x ∷ ys) zs → Sorted (x ∷ y ∷ ys) (cond b (x ∷ y ∷ ys) (y ∷ zs))
  put_in true x y ys zs e r a s =
      let l = leb-true (rank x) (rank y) e in
      record {
        rising = (λ z g. elim g [ inl q ↦ let same = ap rank q in omega arith | inr i ↦ let m = r.0 z i in omega arith ], r);
        apart = a;
        back = λ z g. g;
        forth = λ z g. g;
      }
  put_in false x y ys zs e r a s =
      let l = leb-false (rank x) (rank y) e in
      record {
        rising = (λ z g. elim (s.back z g) [ inl q ↦ let same = ap rank q in omega arith | inr j ↦ r.0 z j ], s.rising);
        apart = (λ g. elim (s.back y g) [ inl q ↦ a.0 (inl (sym q)) | inr j ↦ a.1.0 j ], s.apart);
        back = λ z g. elim g [ inl q ↦ inr (inl q) | inr j ↦ elim (s.back z j) [ inl q ↦ inl q | inr k ↦ inr (inr k) ] ];
        forth = λ z g. elim g [ inl q ↦ inr (s.forth z (inl q)) | inr j ↦ elim j [ inl q ↦ inl q | inr k ↦ inr (s.forth z (inr k)) ] ];
      }

  inserted : (x : X) (ys : List X) → Rising ys → Apart (x ∷ ys) → Sorted (x ∷ ys) (insert rank x ys)
  inserted x [] r a = record { rising = (λ y h. absurd h, tt); apart = a; back = λ z h. h; forth = λ z h. h }
  inserted x (y ∷ ys) r a = put_in (nat_le (rank x) (rank y)) x y ys (insert rank x ys) refl r a (inserted x ys r.1 (λ g. a.0 (inr g), a.1.1))

  pub sorted : (xs : List X) → Apart xs → Sorted xs (sort rank xs)
  sorted [] a = record { rising = tt; apart = tt; back = λ z h. h; forth = λ z h. h }
  sorted (x ∷ xs) a =
      let s = sorted xs a.1 in
      let i = inserted x (sort rank xs) s.rising (λ h. a.0 (s.back x h), s.apart) in
      record {
        rising = i.rising;
        apart = i.apart;
        back = λ z h. elim (i.back z h) [ inl e ↦ inl e | inr j ↦ inr (s.back z j) ];
        forth = λ z h. i.forth z (elim h [ inl e ↦ inl e | inr j ↦ inr (s.forth z j) ]);
      }

  -- in a list that rises, what has a smaller rank stands before
  earlier : (zs : List X) → Rising zs → (j k : ℕ) (x y : X) → slice_get zs j ≡ Some x → slice_get zs k ≡ Some y → rank y < rank x → k < j
  earlier [] r j k x y h g l = absurd cc
  earlier (z ∷ zs) r zero zero x y h g l = let a = ap rank (same_Some z x h) in let b = ap rank (same_Some z y g) in omega arith
  earlier (z ∷ zs) r zero (suc k) x y h g l = let a = ap rank (same_Some z x h) in let b = r.0 y (in_from_get zs k y g) in absurd (omega arith)
  earlier (z ∷ zs) r (suc j) zero x y h g l = omega arith
  earlier (z ∷ zs) r (suc j) (suc k) x y h g l = let e = earlier zs r.1 j k x y h g l in omega arith

-- any list of the items in the order of their ranks is a row
pub sorted_is_row : {X : Type 0} (Points : X → X → Type 0) (items row : List X) (rank : X → ℕ) → Sorted rank items row → ((x y : X) → Has items x → Points x y → Has items y) → ((x y : X) → Has items x → Points x y → rank y < rank x) → IsRow (Has items) Points row
sorted_is_row {X} Points items row rank s closed falls =
    let back : (x : X) → Has row x → Has items x = λ x h. has_from_in items x (s.back x (in_from_has row x h)) in
    let forth : (x : X) → Has items x → Has row x = λ x h. has_from_in row x (s.forth x (in_from_has items x h)) in
    record {
      each = forth;
      only = back;
      once = once_from_apart row s.apart;
      after = λ j x y h p.
          let i = back x (j, h) in
          let a = forth y (closed x y i p) in
          (a.0, earlier rank row s.rising j a.0 x y h a.1 (falls x y i p), a.1);
    }

pub ranked_is_row : (X : Type 0) (Points : X → X → Type 0) → RankedIsRow X Points
ranked_is_row X Points items rank once closed falls =
    sorted_is_row Points items (sort rank items) rank (sorted rank items (apart_from_once items once)) closed falls
