use Rattle.std.proofs.Common.{◌≡◌, drop}
use Rattle.std.specs.Iterator.Adapters.{enumerate_source, enumerate_count}
use Rattle.rules.specs.Fault.{first, numbered, numbered_from}
use Rattle.rules.specs.Check.{filter_tests}
use Rattle.items.specs.Item.{items_left}
use Rattle.tables.specs.Cursor.{table_nodes}
use Rattle.tables.specs.Tables.{filters_nodes}
use Rattle.valid.specs.Module.{shown_module}
use Rattle.valid.proofs.filters.validate_filters.Given as goal

-- the filters so far pass
abbrev pub invariant-loop-number : goal.invariant-loop-number
invariant-loop-number l =
    goal.iterator-loop-number.can_next l.number-iterator
    × goal.iterator-loop-number.is_finite l.number-iterator
    × (table_nodes l.filters ≡ filters_nodes (shown_module l.«module»))
    × (items_left (enumerate_source l.number-iterator) ≡ drop (enumerate_count l.number-iterator) (shown_module l.«module»).filters)
    × (first (numbered filter_tests (shown_module l.«module»).filters) ≡ first (numbered_from filter_tests (enumerate_count l.number-iterator) (items_left (enumerate_source l.number-iterator))))
