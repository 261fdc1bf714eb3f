-- A table of a draft that is sealed for it.
use Rattle.std.specs.Prelude.{◌≡◌, List, Some, None, Option, Ok, Err, Result}
use Rattle.rules.specs.declared.faults.Rejection.{Rejection}
use Rattle.draft.specs.State.{State}
use Rattle.node.specs.Nodes.{Node}
use Rattle.sealing.specs.Seal.{seal_of}
use Rattle.walk.specs.declared.walk.WalkRefusal.TheVariants.{NoSuchBody}
use Rattle.walk.specs.Steps.{Steps}
use Rattle.sealed_walk.specs.declared.walking.DraftTable.{DraftTable}
use Rattle.sealed_walk.specs.Walking.{nodes_of}
use Rattle.walks.specs.declared.table_walk.TableWalk.{TableWalk}
use Rattle.walks.specs.Walks.{IsWalkOf}
use Rattle.any_draft.specs.declared.walking.NoWalk.{NoWalk}
use Rattle.any_draft.specs.declared.walking.NoWalk.TheVariants.{Rejected, Refused}

-- sealing answers so, or it answers nothing and there is no such table
abbrev pub IsDenied : Option Rejection → Option (List Node) → NoWalk → Type 0
IsDenied sealing table (Rejected r) = sealing ≡ Some r
IsDenied sealing table (Refused e) = (sealing ≡ None) × (table ≡ None) × (e ≡ NoSuchBody)

-- of a draft in this state: sealing accepts it and the values are those of the table, or why there are none
abbrev pub WalkedOrDenied : {W V : Type 0} → Steps W V → DraftTable → State → Result (TableWalk V) NoWalk → Type 0
WalkedOrDenied steps table s (Ok w) = (seal_of s ≡ None) × IsWalkOf steps (nodes_of table s.built) w.values.items w.tally
WalkedOrDenied steps table s (Err e) = IsDenied (seal_of s) (nodes_of table s.built) e
