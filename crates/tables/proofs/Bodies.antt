-- Functions as nodes.
use Rattle.std.proofs.Common.{◌≡◌, List, [], ◌∷◌, map, refl, ap}
use Rattle.rules.specs.Module.{Item}
use Rattle.arena.specs.declared.view.View.{View}
use Rattle.arena.specs.Viewing.{viewed}
use Rattle.items.specs.Whole.{body_of}
use Rattle.tables.specs.declared.source.Source.TheVariants as source
use Rattle.tables.specs.Tables.{function_node}
use Rattle.tables.specs.Entering.{node_by}

-- items that open bodies, as nodes that take what those bodies call
pub functions_so : (v : View) (openers : List Item) → map (node_by (source.Calls v)) openers ≡ map function_node (map (body_of (viewed v)) openers)
functions_so v [] = refl
functions_so v (i ∷ openers) = ap (λ l. node_by (source.Calls v) i ∷ l) (functions_so v openers)
