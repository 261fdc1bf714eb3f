use Rattle.std.proofs.Common.{◌≡◌, drop}
use Rattle.std.specs.Iterator.Adapters.{enumerate_count, enumerate_source}
use Rattle.rules.specs.Fault.{first, numbered, numbered_from}
use Rattle.rules.specs.Sizes.{sizes as sizes_of}
use Rattle.items.specs.Item.{items_left}
use Rattle.tables.specs.Tables.{expressions_nodes}
use Rattle.tables.specs.Cursor.{table_nodes}
use Rattle.valid.specs.Module.{shown_module}
use Rattle.sealing.specs.Seal.{global_tests}
use Rattle.seal.proofs.globals.seal_globals.Given as goal

-- the expressions from the number on are left, and those before it pass
abbrev pub invariant-loop-number : goal.invariant-loop-number
invariant-loop-number l =
    goal.iterator-loop-number.can_next l.number-iterator
    × goal.iterator-loop-number.is_finite l.number-iterator
    × (table_nodes l.nodes ≡ expressions_nodes (shown_module l.«module»))
    × (items_left (enumerate_source l.number-iterator) ≡ drop (enumerate_count l.number-iterator) (shown_module l.«module»).expressions)
    × (first (numbered (global_tests (sizes_of (shown_module l.«module»))) (shown_module l.«module»).expressions) ≡ first (numbered_from (global_tests (sizes_of (shown_module l.«module»))) (enumerate_count l.number-iterator) (items_left (enumerate_source l.number-iterator))))
