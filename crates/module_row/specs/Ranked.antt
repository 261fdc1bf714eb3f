-- Items with their ranks.
use Rattle.std.specs.Prelude.{ℕ, List, map}
use Rattle.rules.specs.Module.{Module}
use Rattle.promises.specs.Rows.{RowItem, rank, counted}
use Rattle.module_row.specs.Rows.{shown_item}
use Rattle.module_row.specs.declared.ranked.Ranked.{Ranked}

-- an item and its rank
abbrev pub shown_ranked : Ranked → ℕ × RowItem
shown_ranked r = (r.rank, shown_item r.item)

-- an item with its rank
abbrev pub with_rank : Module → RowItem → ℕ × RowItem
with_rank m x = (rank m x, x)

-- so many items of a table with their ranks
abbrev pub with_ranks : Module → (ℕ → RowItem) → ℕ → List (ℕ × RowItem)
with_ranks m f n = map (with_rank m) (counted f 0 n)
