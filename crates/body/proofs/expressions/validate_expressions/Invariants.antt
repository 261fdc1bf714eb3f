use Rattle.std.proofs.Common.{◌≡◌, ◌+◌, ◌^◌, ◌<◌, length, drop}
use Rattle.std.specs.Iterator.Adapters.{enumerate_count, enumerate_source}
use Rattle.rules.specs.Fault.{first, numbered, numbered_from}
use Rattle.rules.specs.Check.{expression_tests}
use Rattle.items.specs.Item.{items_left, shown_body}
use Rattle.tables.specs.Tables.{inner_nodes}
use Rattle.tables.specs.Cursor.{table_nodes}
use Rattle.body.proofs.expressions.validate_expressions.Given as goal

-- the expressions from the number on are left, and those before it pass
abbrev pub invariant-loop-number : goal.invariant-loop-number
invariant-loop-number l = record {
  can_next : goal.iterator-loop-number.can_next l.number-iterator;
  is_finite : goal.iterator-loop-number.is_finite l.number-iterator;
  few : enumerate_count l.number-iterator + length (items_left (enumerate_source l.number-iterator)) < 2 ^ 64;
  same : table_nodes l.nodes ≡ inner_nodes (shown_body l.body);
  left : drop (enumerate_count l.number-iterator) (shown_body l.body).expressions ≡ items_left (enumerate_source l.number-iterator);
  passed : first (numbered (expression_tests l.sizes l.body.opener.place l.function) (shown_body l.body).expressions) ≡ first (numbered_from (expression_tests l.sizes l.body.opener.place l.function) (enumerate_count l.number-iterator) (drop (enumerate_count l.number-iterator) (shown_body l.body).expressions));
}
