-- The tables by their numbers.
use Rattle.std.specs.Prelude.{ℕ, List, [], ◌∷◌, Option}
use Rattle.std.specs.List.{slice_get}
use Rattle.sealed_walk.specs.declared.walking.DraftTable.{DraftTable}
use Rattle.sealed_walk.specs.declared.walking.DraftTable.TheVariants as table

-- the tables in the order of their numbers, from 0; the last two are those of the function and of the entry point with the number of the body
abbrev pub tables : ℕ → List DraftTable
tables body = table.Types ∷ table.Filters ∷ table.Functions ∷ table.GlobalExpressions ∷ table.Function body ∷ table.EntryPoint body ∷ []

-- the one with a number; there is none past the last
abbrev pub numbered_table : ℕ → ℕ → Option DraftTable
numbered_table number body = slice_get (tables body) number
