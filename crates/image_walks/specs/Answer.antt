-- What is answered for a walk of a table of an image, in memory of so many bytes and slots.
use Rattle.std.specs.Prelude.{ℕ, List, [], Some, None, Option, Ok, Err, Result}
use Rattle.records.specs.Image.{split}
use Rattle.rules.specs.Module.{Module}
use Rattle.draft.specs.State.{state}
use Rattle.node.specs.Nodes.{Node}
use Rattle.images.specs.declared.question.Question.TheVariants.{Seal}
use Rattle.images.specs.declared.verdict.Verdict.{Verdict}
use Rattle.images.specs.Putting.{put_all}
use Rattle.images.specs.Answer.{refusal_in, numbers as verdict}
use Rattle.walk.specs.declared.walk.Tally.{Tally}
use Rattle.walk.specs.Walked.{refusal_number}
use Rattle.walk.specs.Leaves.{placed}
use Rattle.sealed_walk.specs.declared.walking.DraftTable.{DraftTable}
use Rattle.sealed_walk.specs.Walking.{nodes_of, unless_refused}
use Rattle.image_walks.specs.declared.refusal.ImageWalkRefusal.{ImageWalkRefusal}
use Rattle.image_walks.specs.declared.refusal.ImageWalkRefusal.TheVariants.{Image, Walk}
use Rattle.image_walks.specs.declared.walked.Walked.{Walked}

-- the nodes of the table that is asked for, in a module; there are none for a number of no table
abbrev pub nodes_in : Option DraftTable → Module → Option (List Node)
nodes_in None m = None
nodes_in (Some table) m = nodes_of table m

module _ (room slots : ℕ) (image : List ℕ) where
  -- the module that the records of the image make, when they are put on a new draft up to the first refusal
  abbrev pub module_in : Module
  module_in = (state (put_all room slots [] (split image)).1).built

  -- the nodes that are walked, or why none are: put or sealing refuses the image, there is no such table, or the places are too few
  abbrev pub nodes_walked : Option DraftTable → ℕ → Result (List Node) ImageWalkRefusal
  nodes_walked table places = placed Walk places (unless_refused Image Walk (refusal_in Seal room slots image) (nodes_in table module_in))

-- a verdict and two counts
abbrev pub with_counts : Verdict → ℕ → ℕ → Walked
with_counts v items takes = record { number = v.number; kind = v.kind; first = v.first; second = v.second; position = v.position; items = items; takes = takes }

-- the seven numbers: those of a refused image are its verdict and two zeros, those of a refused walk its own and six zeros
abbrev pub numbers : Result Tally ImageWalkRefusal → Walked
numbers (Ok t) = with_counts (verdict None) t.items t.takes
numbers (Err (Image e)) = with_counts (verdict (Some e)) 0 0
numbers (Err (Walk e)) = record { number = refusal_number e; kind = 0; first = 0; second = 0; position = 0; items = 0; takes = 0 }
