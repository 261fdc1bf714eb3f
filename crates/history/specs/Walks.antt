-- One walk in a list of calls.
use Rattle.std.specs.Prelude.{ℕ, min, Bool, true, false, List, Some, None, Option, Ok, Err, Result}
use Rattle.node.specs.Nodes.{Node}
use Rattle.node.specs.Late.{first_late_of}
use Rattle.node.specs.declared.earlier.Late.{Late}
use Rattle.draft.specs.State.{State}
use Rattle.sealing.specs.Seal.{seal_of}
use Rattle.walk.specs.Leaves.{placed}
use Rattle.sealed_walk.specs.declared.walking.DraftTable.{DraftTable}
use Rattle.sealed_walk.specs.Walking.{nodes_of, unless_refused}
use Rattle.history.specs.declared.calls.Walk.{Walk}
use Rattle.history.specs.declared.calls.WantedTable.{WantedTable}
use Rattle.history.specs.declared.calls.WantedTable.TheVariants as table
use Rattle.history.specs.declared.calls.Denial.{Denial}
use Rattle.history.specs.declared.calls.Denial.TheVariants.{Rejected, Late as Is_late, Refused}

-- the nodes of a table of a draft in this state, where sealing accepts it and it has such a table
abbrev pub drafted : State → DraftTable → Result (List Node) Denial
drafted s t = unless_refused Rejected Refused (seal_of s) (nodes_of t s.built)

-- the nodes, unless an operand is not earlier
abbrev pub when_earlier : Option Late → List Node → Result (List Node) Denial
when_earlier (Some l) nodes = Err (Is_late l)
when_earlier None nodes = Ok nodes

-- those of a table of the caller's, where every operand is earlier
abbrev pub tested : List Node → Result (List Node) Denial
tested nodes = when_earlier (first_late_of nodes) nodes

-- whether the table that is wanted is one of the draft's
abbrev pub is_drafts : {T : Type 0} → WantedTable T → Bool
is_drafts (table.Draft t) = true
is_drafts (table.Own t) = false

-- the nodes of the table that is wanted
abbrev pub wanted : {T : Type 0} → (T → List Node) → State → WantedTable T → Result (List Node) Denial
wanted own s (table.Draft t) = drafted s t
wanted own s (table.Own t) = tested (own t)

-- the nodes that a walk goes through, where there are so many values, or why it goes through none
abbrev pub walked_nodes : {R T : Type 0} → (T → List Node) → ℕ → State → Walk R T → Result (List Node) Denial
walked_nodes own count s w = placed Refused (min w.places count) (wanted own s w.table)
