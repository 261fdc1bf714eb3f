-- Items as nodes, and one that is entered.
use Rattle.std.specs.Prelude.{◌≡◌, ℕ, List, ◌∷◌, map, drop, refl}
use Rattle.std.specs.Coded.{Coded, Coded-set, code_by, coded_ℕ, coded_list, coded×}
use Rattle.rules.specs.Module.{Item}
use Rattle.rules.specs.Items.{handles, numbers}
use Rattle.arena.specs.Viewing.{viewed}
use Rattle.items.specs.Item.{items_left}
use Rattle.items.specs.Whole.{body_of}
use Rattle.items.specs.declared.items.Items.{Items}
use Rattle.node.specs.Nodes.{Node}
use Rattle.tables.specs.declared.source.Source.{Source}
use Rattle.tables.specs.declared.source.Source.TheVariants as source
use Rattle.tables.specs.declared.entered.Entered.{Entered}
use Rattle.tables.specs.Tables.{callees}
use Rattle.tables.specs.Operands.{operands_left}

abbrev pub operands_by : Source → Item → List ℕ
operands_by (source.Handles t) i = numbers t (handles i)
operands_by (source.Calls v) i = callees (body_of (viewed v) i)

abbrev pub node_by : Source → Item → Node
node_by s i = record { bytes = i.bytes; operands = operands_by s i }

-- the items that are left, as nodes
abbrev pub nodes_left : Source → Items → List Node
nodes_left s items = map (node_by s) (items_left items)

abbrev pub node_entered : Entered → Node
node_entered e = record { bytes = e.«record».bytes.now; operands = operands_left e.operands }

-- the same item is entered, whatever operands are passed
pub record Same (e f : Entered) : Type 0 where
  pub number : f.number ≡ e.number
  pub node : node_entered f ≡ node_entered e
  pub later : f.later ≡ e.later

-- an item of these is entered, with those behind it
abbrev pub Enters : Source → Items → Entered → Type 0
Enters s all e = drop e.number (nodes_left s all) ≡ node_entered e ∷ nodes_left s e.later

coded_node : Coded Node
coded_node = code_by (List ℕ × List ℕ) (coded× (coded_list coded_ℕ) (coded_list coded_ℕ)) (λ n. (n.bytes, n.operands)) (λ p. record { bytes = p.0; operands = p.1 }) (λ _. refl)

-- nodes are equal in one way, so that a struct can hold the fact that an item is entered
pub Enters-prop : (s : Source) (all : Items) (e : Entered) → IsProp (Enters s all e)
Enters-prop s all e = Coded-set (coded_list coded_node) _ _
