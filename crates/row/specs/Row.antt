-- Rows: a list that holds each item of a set once, in which every item stands after all that it points to.
use Rattle.std.specs.Prelude.{◌≡◌, ℕ, ◌<◌, cond, List, [], ◌∷◌, Some, nat_le}
use Rattle.std.specs.List.{slice_get}

-- x stands somewhere in the list
abbrev pub Has : {X : Type 0} → List X → X → Type 0
Has xs x = (k : ℕ) × (slice_get xs k ≡ Some x)

-- nothing stands at two places of the list
abbrev pub Once : {X : Type 0} → List X → Type 0
Once {X} xs = (j k : ℕ) (x : X) → slice_get xs j ≡ Some x → slice_get xs k ≡ Some x → j ≡ k

-- the list is a row of the set Inside
pub record IsRow {X : Type 0} (Inside : X → Type 0) (Points : X → X → Type 0) (row : List X) : Type 0 where
  -- each item of the set stands in it, and nothing else does
  pub each : (x : X) → Inside x → Has row x
  pub only : (x : X) → Has row x → Inside x
  -- nothing stands in it twice
  pub once : Once row
  -- what an item points to stands before the item
  pub after : (j : ℕ) (x y : X) → slice_get row j ≡ Some x → Points x y → (k : ℕ) × (k < j) × (slice_get row k ≡ Some y)

-- x before the first item whose rank is not smaller
abbrev pub insert : {X : Type 0} → (X → ℕ) → X → List X → List X
insert rank x [] = x ∷ []
insert rank x (y ∷ ys) = cond (nat_le (rank x) (rank y)) (x ∷ y ∷ ys) (y ∷ insert rank x ys)

-- items in the order of their ranks, those of one rank as they come
abbrev pub sort : {X : Type 0} → (X → ℕ) → List X → List X
sort rank [] = []
sort rank (x ∷ xs) = insert rank x (sort rank xs)

-- where each item of a list without repetition points to items of the list, all of a smaller rank, the list in the order
-- of the ranks is a row
abbrev pub RankedIsRow : (X : Type 0) → (X → X → Type 0) → Type 0
RankedIsRow X Points =
    (items : List X) (rank : X → ℕ)
    → Once items
    → ((x y : X) → Has items x → Points x y → Has items y)
    → ((x y : X) → Has items x → Points x y → rank y < rank x)
    → IsRow (Has items) Points (sort rank items)
