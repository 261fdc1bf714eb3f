-- The operands of the first items.
use Rattle.std.proofs.Common.{◌≡◌, ℕ, ◌+◌, ◌<◌, List, length, take, sym, ap, ◌∙◌}
use Rattle.std.proofs.lemmas.List.Sums.{sum_by_more}
use Rattle.std.proofs.lemmas.Option.{get_or_from_slice_get}
use Rattle.node.specs.Nodes.{Node, operands_at, operands_in_all}
use Rattle.walk.proofs.Places.{got}
use Rattle.walk.proofs.Rules.{operands_here}

-- those of one item more
pub total_next : (nodes : List Node) (i : ℕ) → i < length nodes → operands_in_all (take (i + 1) nodes) ≡ operands_in_all (take i nodes) + length (operands_at nodes i)
total_next nodes i l =
    let n = got nodes i l in
    let d = n.0 in
    sum_by_more (λ (n : Node). length n.operands) nodes i d l ∙ ap (λ (x : Node). operands_in_all (take i nodes) + length x.operands) (get_or_from_slice_get nodes i n.0 d n.1) ∙ ap (λ k. operands_in_all (take i nodes) + k) (ap length (sym (operands_here nodes i n.0 n.1)))
