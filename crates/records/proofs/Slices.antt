-- A slice as a slice pattern takes it apart.
use Rattle.std.proofs.Common.{◌≡◌, ℕ, ◌-◌, List, [], ◌∷◌, length, take, drop, refl, arith, length-drop, take_all}

-- what `[.., rest @ ..]` and `&s[k..]` leave
pub rest_is : {A : Type 0} (k : ℕ) (s : List A) → take (length s - k) (drop k s) ≡ drop k s
rest_is k s = take_all _ _ (simp length-drop (omega arith))

pub empty_is : {A : Type 0} (s : List A) → length s ≡ 0 → s ≡ []
empty_is [] h = refl
empty_is (x ∷ s) h = absurd (omega arith)
