-- What a walk answers, and what the lent values are after it.
use Rattle.std.specs.Prelude.{◌≡◌, ℕ, ◌<◌, ◌≤◌, List, length, take, drop, Ok, Err, Result}
use Rattle.node.specs.Nodes.{Node, operands_in_all}
use Rattle.walk.specs.declared.walk.Tally.{Tally}
use Rattle.walk.specs.declared.walk.WalkRefusal.{WalkRefusal}
use Rattle.walk.specs.declared.walk.WalkRefusal.TheVariants.{NoSuchBody, TooFewPlaces}
use Rattle.walk.specs.Steps.{Steps}
use Rattle.walk.specs.Rule.{TheValues}

-- the number of each refusal
abbrev pub refusal_number : WalkRefusal → ℕ
refusal_number NoSuchBody = 14
refusal_number TooFewPlaces = 15

module _ {W V : Type 0} (s : Steps W V) (nodes : List Node) (before after : List V) where
  -- as many values as there are items are theirs, those beyond are as they were, and the tallies number items and takes
  pub record Filled (t : Tally) : Type 0 where
    pub places : length nodes ≤ length before
    pub values : TheValues s nodes (take (length nodes) after)
    pub beyond : drop (length nodes) after ≡ drop (length nodes) before
    pub items : t.items ≡ length nodes
    pub takes : t.takes ≡ operands_in_all nodes

  -- there are fewer values than items, and all are as they were
  pub record Short (e : WalkRefusal) : Type 0 where
    pub few : length before < length nodes
    pub refusal : e ≡ TooFewPlaces
    pub same : after ≡ before

  -- a walk of a table with these nodes fills the lent values, or refuses where they are too few
  abbrev pub Walked : Result Tally WalkRefusal → Type 0
  Walked (Ok t) = Filled t
  Walked (Err e) = Short e
