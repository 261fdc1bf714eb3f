-- What a cursor finds, and what stays.
use Rattle.std.specs.Prelude.{◌≡◌, ℕ, List, [], drop, Option, MatchOption}
use Rattle.node.specs.Nodes.{Node}
use Rattle.tables.specs.declared.entered.Entered.{Entered}
use Rattle.tables.specs.declared.cursor.Cursor.{Cursor}
use Rattle.tables.specs.declared.tables.ItemTable.{ItemTable}
use Rattle.tables.specs.Entering.{nodes_left, Enters}

abbrev pub cursor_nodes : Cursor → List Node
cursor_nodes c = nodes_left c.source c.all

-- the item with a number is entered, or there is none
abbrev pub Found : Cursor → ℕ → Option Entered → Type 0
Found c n r = MatchOption r (drop n (cursor_nodes c) ≡ []) (λ e. (e.number ≡ n) × Enters c.source c.all e)

-- the items and what makes their operands stay
pub record Stays (c d : Cursor) : Type 0 where
  pub source : d.source ≡ c.source
  pub all : d.all ≡ c.all

abbrev pub table_nodes : {T : Type 0} → ItemTable T → List Node
table_nodes t = cursor_nodes t.cursor
