use Rattle.std.proofs.Common.{◌≡◌, drop, map}
use Rattle.std.specs.Iterator.Adapters.{enumerate_source, enumerate_count}
use Rattle.rules.specs.Fault.{first, numbered, numbered_from}
use Rattle.arena.specs.Viewing.{viewed}
use Rattle.items.specs.Item.{items_left}
use Rattle.items.specs.Whole.{body_of}
use Rattle.tables.specs.Cursor.{table_nodes}
use Rattle.tables.specs.Tables.{functions_nodes}
use Rattle.valid.specs.Module.{shown_module}
use Rattle.sealing.specs.Seal.{call_tests}
use Rattle.seal.proofs.calls.seal_calls.Given as goal

-- the functions so far pass
abbrev pub invariant-loop-number : goal.invariant-loop-number
invariant-loop-number l =
    goal.iterator-loop-number.can_next l.number-iterator
    × goal.iterator-loop-number.is_finite l.number-iterator
    × (table_nodes l.functions ≡ functions_nodes (shown_module l.«module»))
    × (map (body_of (viewed l.«module».view)) (items_left (enumerate_source l.number-iterator)) ≡ drop (enumerate_count l.number-iterator) (shown_module l.«module»).functions)
    × (first (numbered call_tests (shown_module l.«module»).functions) ≡ first (numbered_from call_tests (enumerate_count l.number-iterator) (map (body_of (viewed l.«module».view)) (items_left (enumerate_source l.number-iterator)))))
