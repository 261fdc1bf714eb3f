-- Walks of nodes that are known, or of which it is known why none are walked.
use Rattle.std.specs.Prelude.{◌≡◌, ℕ, nat_lt, cond, List, length, take, drop, Ok, Err, Result}
use Rattle.node.specs.Nodes.{Node, operands_in_all}
use Rattle.walk.specs.declared.walk.Tally.{Tally}
use Rattle.walk.specs.declared.walk.WalkRefusal.{WalkRefusal}
use Rattle.walk.specs.declared.walk.WalkRefusal.TheVariants.{TooFewPlaces}
use Rattle.walk.specs.Steps.{Steps}
use Rattle.walk.specs.Rule.{TheValues}

module _ {E : Type 0} where
  -- the nodes, if there are as many places
  abbrev pub placed : (WalkRefusal → E) → ℕ → Result (List Node) E → Result (List Node) E
  placed refused places (Err e) = Err e
  placed refused places (Ok nodes) = cond (nat_lt places (length nodes)) (Err (refused TooFewPlaces)) (Ok nodes)

  -- what is answered: how many items they are, and how many operands these take
  abbrev pub tallied : Result (List Node) E → Result Tally E
  tallied (Err e) = Err e
  tallied (Ok nodes) = Ok (record { items = length nodes; takes = operands_in_all nodes })

module _ {W V : Type 0} (s : Steps W V) where
  -- the first values are those of the nodes, which no others are, and those beyond are as they were
  pub record FirstAre (nodes : List Node) (before after : List V) : Type 0 where
    pub theirs : TheValues s nodes (take (length nodes) after)
    pub beyond : drop (length nodes) after ≡ drop (length nodes) before

  -- where no nodes are walked all values are as they were
  abbrev pub Leaves : {E : Type 0} → Result (List Node) E → List V → List V → Type 0
  Leaves (Err e) before after = after ≡ before
  Leaves (Ok nodes) before after = FirstAre nodes before after
