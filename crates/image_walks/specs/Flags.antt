-- Which items are steady, by 1 and 0.
use Rattle.std.specs.Prelude.{◌≡◌, ℕ, Bool, cond, ◌&&◌, ◌==◌, List, map, length, take, drop, Ok, Err, Result}
use Rattle.node.specs.Nodes.{Node}
use Rattle.walk.specs.Steps.{Steps}
use Rattle.walk.specs.Rule.{TheValues}
use Rattle.walk.specs.Readings.{is_steady, steady}
use Rattle.image_walks.specs.declared.refusal.ImageWalkRefusal.{ImageWalkRefusal}

-- 1 for yes, and 0 for no
abbrev pub flag : Bool → ℕ
flag answer = cond answer 1 0

-- as steady, but that the value of an item is 1 or 0
abbrev pub flags : Steps Bool ℕ
flags = record {
  start = λ bytes. is_steady bytes;
  take = λ so_far value. so_far && (value == 1);
  finish = λ all. flag all;
}

-- the first numbers are the answers of steady for the nodes, by 1 and 0, and those beyond are as they were
pub record FirstFlag (nodes : List Node) (before after : List ℕ) : Type 0 where
  pub answers : List Bool
  pub theirs : TheValues steady nodes answers
  pub shown : take (length nodes) after ≡ map flag answers
  pub beyond : drop (length nodes) after ≡ drop (length nodes) before

-- where no nodes are walked all numbers are as they were
abbrev pub LeavesFlags : Result (List Node) ImageWalkRefusal → List ℕ → List ℕ → Type 0
LeavesFlags (Ok nodes) before after = FirstFlag nodes before after
LeavesFlags (Err e) before after = after ≡ before
