-- The first operand that is not earlier.
use Rattle.std.specs.Prelude.{ℕ, suc, cond, List, [], ◌∷◌, Some, None, Option, nat_lt}
use Rattle.node.specs.Nodes.{Node}
use Rattle.node.specs.declared.earlier.Late.{Late}

-- the first of these operands of an item that is not strictly below the item's number
abbrev pub first_late : ℕ → List ℕ → Option ℕ
first_late item [] = None
first_late item (x ∷ xs) = cond (nat_lt x item) (first_late item xs) (Some x)

abbrev pub late_or : ℕ → Option ℕ → Option Late → Option Late
late_or item None rest = rest
late_or item (Some x) rest = Some (record { item = item; operand = x })

-- the same of nodes whose first has this number, item by item
abbrev pub first_late_from : ℕ → List Node → Option Late
first_late_from item [] = None
first_late_from item (n ∷ nodes) = late_or item (first_late item n.operands) (first_late_from (suc item) nodes)

-- of a whole table
abbrev pub first_late_of : List Node → Option Late
first_late_of nodes = first_late_from 0 nodes
