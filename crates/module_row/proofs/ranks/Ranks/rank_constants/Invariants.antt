use Rattle.std.proofs.Common.{◌≡◌, ◌≤◌, ◌++◌, map, length, drop}
use Rattle.std.specs.Iterator.Adapters.{enumerate_source, enumerate_count}
use Rattle.items.specs.Item.{items_left}
use Rattle.promises.specs.Rows.{RowItem}
use Rattle.valid.specs.Module.{shown_module}
use Rattle.module_row.specs.Ranked.{shown_ranked, with_ranks}
use Rattle.module_row.proofs.ranks.Ranks.rank_constants.Given as goal

-- the constants so far
abbrev pub invariant-loop-number : goal.invariant-loop-number
invariant-loop-number l =
    goal.iterator-loop-number.can_next l.number-iterator
    × goal.iterator-loop-number.is_finite l.number-iterator
    × (items_left (enumerate_source l.number-iterator) ≡ drop (enumerate_count l.number-iterator) (shown_module l.self.«module»).constants)
    × (enumerate_count l.number-iterator ≤ length (shown_module l.self.«module»).constants)
    × (map shown_ranked l.ranked.items ≡ map shown_ranked l.fn.ranked.items ++ with_ranks (shown_module l.self.«module») RowItem.constant (enumerate_count l.number-iterator))
