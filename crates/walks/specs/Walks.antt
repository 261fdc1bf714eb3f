-- The values of a table by a reading, one for each item, and what the walk did.
use Rattle.std.specs.Prelude.{◌≡◌, List, length, Some, None, Option, Ok, Err, Result}
use Rattle.node.specs.Nodes.{Node, operands_in_all}
use Rattle.walk.specs.declared.walk.Tally.{Tally}
use Rattle.walk.specs.declared.walk.WalkRefusal.{WalkRefusal}
use Rattle.walk.specs.declared.walk.WalkRefusal.TheVariants.{NoSuchBody}
use Rattle.walk.specs.Steps.{Steps}
use Rattle.walk.specs.Rule.{TheValues}
use Rattle.walks.specs.declared.table_walk.TableWalk.{TableWalk}

-- the values are the only ones that keep the rule, and the tallies number items and takes
pub record IsWalk {W V : Type 0} (s : Steps W V) (nodes : List Node) (values : List V) (t : Tally) : Type 0 where
  pub values_are : TheValues s nodes values
  pub items : t.items ≡ length nodes
  pub takes : t.takes ≡ operands_in_all nodes

-- there is such a table, and its values are these
abbrev pub IsWalkOf : {W V : Type 0} → Steps W V → Option (List Node) → List V → Tally → Type 0
IsWalkOf s table values t = (nodes : List Node) × (table ≡ Some nodes) × IsWalk s nodes values t

-- the values of a table that was looked for, or that there is none
abbrev pub WalkedOrNone : {W V : Type 0} → Steps W V → Option (List Node) → Result (TableWalk V) WalkRefusal → Type 0
WalkedOrNone s table (Ok w) = IsWalkOf s table w.values.items w.tally
WalkedOrNone s table (Err e) = (e ≡ NoSuchBody) × (table ≡ None)
