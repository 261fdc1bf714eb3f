-- The value of one item.
use Rattle.std.specs.Prelude.{◌≡◌, ℕ, List, Some}
use Rattle.std.specs.List.{slice_get}
use Rattle.node.specs.Nodes.{Node}
use Rattle.walk.specs.Steps.{Steps}
use Rattle.walk.specs.Rule.{Makes}

-- v is made as the rule says for the item with this number
abbrev pub MadeAt : {W V : Type 0} → Steps W V → List V → List Node → ℕ → V → Type 0
MadeAt s values nodes i v = (n : Node) → slice_get nodes i ≡ Some n → Makes s values n v
