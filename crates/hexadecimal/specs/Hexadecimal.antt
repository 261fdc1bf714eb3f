-- Bytes written in hexadecimal.
use Rattle.std.specs.Prelude.{ℕ, ◌+◌, ◌-◌, ◌*◌, ◌/◌, Bool, cond, ◌&&◌, List, [], ◌∷◌, length, Some, None, Option, nat_le}
use Rattle.std.specs.List.{filter_map}
use Rattle.std.specs.Simd.{first_chunks}

-- from low to high, both included
abbrev pub within : ℕ → ℕ → ℕ → Bool
within low high n = nat_le low n && nat_le n high

-- '0' to '9' and 'a' to 'f' stand for 0 to 15
abbrev pub digit_of : ℕ → Option ℕ
digit_of c = cond (within 48 57 c) (Some (c - 48)) (cond (within 97 102 c) (Some (c - 97 + 10)) None)

-- the high digit, then the low one
abbrev pub joined : Option ℕ → Option ℕ → Option ℕ
joined (Some high) (Some low) = Some (high * 16 + low)
joined (Some high) None = None
joined None low = None

-- the byte that two digits write
abbrev pub byte_of : List ℕ → Option ℕ
byte_of [] = None
byte_of (high ∷ []) = None
byte_of (high ∷ low ∷ rest) = joined (digit_of high) (digit_of low)

-- the bytes that the pairs from the front write; what is no pair of digits is left out, and so is an odd last digit
abbrev pub decoded : List ℕ → List ℕ
decoded w = filter_map byte_of (first_chunks 2 (length w / 2) w)
