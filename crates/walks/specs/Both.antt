-- Tables walked by both readings.
use Rattle.std.specs.Prelude.{List, [], ◌∷◌}
use Rattle.rules.specs.Module.{Body}
use Rattle.node.specs.Nodes.{Node}
use Rattle.tables.specs.Tables.{inner_nodes}
use Rattle.walk.specs.Readings.{depth, steady}
use Rattle.walks.specs.Walks.{IsWalk}
use Rattle.walks.specs.declared.table_walk.BothWalks.{BothWalks}

-- the depths of these nodes, and which of them are steady
pub record AreBoth (nodes : List Node) (w : BothWalks) : Type 0 where
  pub by_depth : IsWalk depth nodes w.depth.values.items w.depth.tally
  pub by_steady : IsWalk steady nodes w.steady.values.items w.steady.tally

-- those of the expressions of each body, in order
abbrev pub EachWalked : List Body → List BothWalks → Type 0
EachWalked [] [] = Unit {0}
EachWalked (b ∷ bodies) (w ∷ walks) = AreBoth (inner_nodes b) w × EachWalked bodies walks
EachWalked [] (w ∷ walks) = ⊥
EachWalked (b ∷ bodies) [] = ⊥
