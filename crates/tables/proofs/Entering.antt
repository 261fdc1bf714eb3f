-- The nodes that a cursor finds.
use Rattle.std.proofs.Common.{◌≡◌, ℕ, List, drop, Some, None, sym, ap, ◌∙◌, refl}
use Rattle.std.specs.List.{slice_get}
use Rattle.node.specs.Nodes.{Node, operand_of}
use Rattle.tables.specs.declared.entered.Entered.{Entered}
use Rattle.tables.specs.declared.cursor.Cursor.{Cursor}
use Rattle.tables.specs.Entering.{node_entered, nodes_left}
use Rattle.tables.specs.Cursor.{cursor_nodes, Found}
use Rattle.tables.proofs.Going.{none_at, some_at}

pub found_at : (c : Cursor) (n : ℕ) (e : Entered) → Found c n (Some e) → slice_get (cursor_nodes c) n ≡ Some (node_entered e)
found_at c n e h = some_at (cursor_nodes c) (nodes_left c.source e.later) n (node_entered e) (ap (λ k. drop k (cursor_nodes c)) (sym h.0) ∙ h.1)

pub not_found : (c : Cursor) (n : ℕ) → Found c n None → slice_get (cursor_nodes c) n ≡ None
not_found c n h = none_at (cursor_nodes c) n h

module _ (nodes : List Node) (n place : ℕ) where
  pub operand_in : (x : Node) → slice_get nodes n ≡ Some x → operand_of nodes n place ≡ slice_get x.operands place
  operand_in x e = rw e refl

  pub operand_past : slice_get nodes n ≡ None → operand_of nodes n place ≡ None
  operand_past e = rw e refl
