use Rattle.std.proofs.Common.{◌≡◌, ◌++◌, map}
use Rattle.promises.specs.Rows.{RowItem}
use Rattle.valid.specs.Module.{shown_module}
use Rattle.module_row.specs.Ranked.{shown_ranked, with_ranks}
use Rattle.module_row.proofs.ranks.Ranks.rank_types.Given as goal

-- the types so far
abbrev pub invariant-loop-number : goal.invariant-loop-number
invariant-loop-number l = map shown_ranked l.ranked.items ≡ map shown_ranked l.fn.ranked.items ++ with_ranks (shown_module l.self.«module») RowItem.type l.number
