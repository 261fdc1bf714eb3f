-- The rule of a reading: which values the items of a node table have.
use Rattle.std.specs.Prelude.{◌≡◌, ℕ, ◌<◌, List, [], ◌∷◌, length, Some}
use Rattle.std.specs.List.{AllByRecursion, slice_get}
use Rattle.node.specs.Nodes.{Node}
use Rattle.walk.specs.Steps.{Steps}

-- every operand of a table is earlier than the item that takes it
abbrev pub OperandsEarlier : List Node → Type 0
OperandsEarlier nodes = (n : ℕ) (x : Node) → slice_get nodes n ≡ Some x → AllByRecursion (λ k. k < n) x.operands

module _ {W V : Type 0} (s : Steps W V) (values : List V) where
  -- the values of these operands, taken one after the other, make w into x
  abbrev pub Takes : W → List ℕ → W → Type 0
  Takes w [] x = w ≡ x
  Takes w (k ∷ ks) x = (v : V) × (slice_get values k ≡ Some v) × Takes (s.take w v) ks x

  -- v is the finish of the start of the item's record and of the takes of its operands' values
  abbrev pub Makes : Node → V → Type 0
  Makes n v = (x : W) × Takes (s.start n.bytes) n.operands x × (s.finish x ≡ v)

-- a list with one value for each item keeps the rule: each is made so of the values of this very list
pub record Keeps {W V : Type 0} (s : Steps W V) (nodes : List Node) (values : List V) : Type 0 where
  pub one_each : length values ≡ length nodes
  pub each : (i : ℕ) (n : Node) (v : V) → slice_get nodes i ≡ Some n → slice_get values i ≡ Some v → Makes s values n v

-- a list keeps the rule, and no other list does
pub record TheValues {W V : Type 0} (s : Steps W V) (nodes : List Node) (values : List V) : Type 0 where
  pub keeps : Keeps s nodes values
  pub no_others : (others : List V) → Keeps s nodes others → others ≡ values
