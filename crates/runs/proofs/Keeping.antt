-- Items keep their numbers from one list to another.
use Rattle.std.proofs.Common.{◌≡◌, ℕ, zero, suc, Bool, true, false, List, [], ◌∷◌, ◌++◌, Some}
use Rattle.std.specs.List.{slice_get}
use Rattle.rules.specs.Module.{Item}
use Rattle.arena.proofs.Homes.{grown}

-- every item of the first list has its number in the second
abbrev pub Keeps : List Item → List Item → Type 0
Keeps xs ys = (n : ℕ) (x : Item) → slice_get xs n ≡ Some x → slice_get ys n ≡ Some x

pub keeps_same : (xs : List Item) → Keeps xs xs
keeps_same xs n x e = e

keeps_push : (xs : List Item) (i : Item) → Keeps xs (xs ++ i ∷ [])
keeps_push [] i n x e = absurd cc
keeps_push (y ∷ xs) i zero x e = e
keeps_push (y ∷ xs) i (suc n) x e = keeps_push xs i n x e

pub keeps_grown : (z : Bool) (xs : List Item) (i : Item) → Keeps xs (grown z xs i)
keeps_grown true xs i = keeps_push xs i
keeps_grown false xs i = keeps_same xs
