-- An image: records one after the other, with nothing between them.
use Rattle.std.specs.Prelude.{◌≡◌, ℕ, zero, suc, ◌+◌, ◌<◌, min, false, List, [], ◌∷◌, ◌++◌, length, take, drop, is_ok, Some, None, Option}
use Rattle.ir.specs.declared.kinds.Kind.{Kind}
use Rattle.ir.specs.Layout.{layout, size_of}
use Rattle.ir.specs.Number.{kind_of}
use Rattle.records.specs.Record.{parts_of}

-- how much of what follows a kind byte belongs to it: all, where no kind has that number or its body is cut short
abbrev pub body_size : Option Kind → ℕ → ℕ
body_size None left = left
body_size (Some k) left = min (size_of (layout k)) left

-- how many bytes the first part of an image has
abbrev pub front_size : List ℕ → ℕ
front_size [] = 0
front_size (byte ∷ body) = 1 + body_size (kind_of byte) (length body)

abbrev pub split_in : ℕ → List ℕ → List (List ℕ)
split_in zero image = []
split_in (suc n) [] = []
split_in (suc n) (byte ∷ body) =
    take (front_size (byte ∷ body)) (byte ∷ body) ∷ split_in n (drop (front_size (byte ∷ body)) (byte ∷ body))

-- the parts of an image, in order: no more than it has bytes
unfoldable pub split : List ℕ → List (List ℕ)
split image = split_in (length image) image

-- the first part of an image and what is left
pub record Cut (image front rest : List ℕ) : Type 0 where
  pub first : split image ≡ front ∷ split rest
  pub whole : image ≡ front ++ rest
  pub shorter : length rest < length image
  -- what is no record takes all that is left
  pub last : is_ok (parts_of front) ≡ false → rest ≡ []
