-- All tables of a module, walked by both readings.
use Rattle.rules.specs.Module.{Module}
use Rattle.tables.specs.Tables.{types_nodes, filters_nodes, functions_nodes, expressions_nodes}
use Rattle.walks.specs.Both.{AreBoth, EachWalked}
use Rattle.walks.specs.declared.draft_walks.DraftWalks.{DraftWalks}

-- the walks of each table of a module, those of its bodies in the order of their numbers
pub record AreWalks (m : Module) (w : DraftWalks) : Type 0 where
  pub of_types : AreBoth (types_nodes m) w.types
  pub of_filters : AreBoth (filters_nodes m) w.filters
  pub of_functions : AreBoth (functions_nodes m) w.functions
  pub of_globals : AreBoth (expressions_nodes m) w.globals
  pub of_function_bodies : EachWalked m.functions w.function_bodies.items
  pub of_entry_bodies : EachWalked m.entries w.entry_bodies.items
