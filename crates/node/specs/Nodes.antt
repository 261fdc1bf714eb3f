-- What a node table means: a list of nodes.
use Rattle.std.specs.Prelude.{ℕ, List, [], length, Some, None, sum_by, Option}
use Rattle.std.specs.List.{slice_get}

-- an item: its record, and the numbers of the items that it takes
pub record Node : Type 0 where
  pub bytes : List ℕ
  pub operands : List ℕ

abbrev operands_in : Option Node → List ℕ
operands_in None = []
operands_in (Some n) = n.operands

-- the operands of an item, of which there are none past the last item
abbrev pub operands_at : List Node → ℕ → List ℕ
operands_at nodes item = operands_in (slice_get nodes item)

-- the operand at a place
abbrev pub operand_of : List Node → ℕ → ℕ → Option ℕ
operand_of nodes item place = slice_get (operands_at nodes item) place

-- how many operands the items have in all
abbrev pub operands_in_all : List Node → ℕ
operands_in_all nodes = sum_by (λ n. length n.operands) nodes
