-- Numbers in decimal digits.
use Rattle.std.specs.Prelude.{ℕ, ◌+◌, ◌-◌, ◌*◌, ◌^◌, Bool, cond, ◌&&◌, List, [], ◌∷◌, Some, None, fold, Option, nat_le, nat_lt}

-- from low to high, both included
abbrev pub within : ℕ → ℕ → ℕ → Bool
within low high n = nat_le low n && nat_le n high

-- one digit more, where the number stays below 2 ^ 64
abbrev pub digit_more : Option ℕ → ℕ → Option ℕ
digit_more None b = None
digit_more (Some n) b = cond (within 48 57 b && nat_lt (n * 10 + (b - 48)) (2 ^ 64)) (Some (n * 10 + (b - 48))) None

-- the number that decimal digits write, if there is at least one and nothing else
abbrev pub number_in : List ℕ → Option ℕ
number_in [] = None
number_in (b ∷ w) = fold digit_more (Some 0) (b ∷ w)

-- a number below 2 ^ 32
abbrev pub below_limit : Option ℕ → Option ℕ
below_limit None = None
below_limit (Some n) = cond (nat_lt n (2 ^ 32)) (Some n) None

-- the number that decimal digits write, if it is below 2 ^ 32
abbrev pub short_in : List ℕ → Option ℕ
short_in w = below_limit (number_in w)
