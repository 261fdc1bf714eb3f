-- How many items there are to name.
use Rattle.std.specs.Prelude.{ℕ, length}
use Rattle.ir.specs.declared.handle.Table.{Table}
use Rattle.ir.specs.declared.handle.Table.TheVariants as table
use Rattle.rules.specs.declared.sizes.Sizes.{Sizes}
use Rattle.rules.specs.Module.{Body, Module}

-- how many items a table has; no handle names an entry point
abbrev pub size_in : Sizes → Table → ℕ
size_in s table.Types = s.types
size_in s table.Constants = s.constants
size_in s table.Overrides = s.overrides
size_in s table.GlobalVariables = s.global_variables
size_in s table.LocalVariables = s.local_variables
size_in s table.Expressions = s.expressions
size_in s table.Functions = s.functions
size_in s table.Filters = s.filters
size_in s table.EntryPoints = 0

-- for what stands outside of the bodies
abbrev pub sizes : Module → Sizes
sizes m = record {
  types = length m.types;
  constants = length m.constants;
  overrides = length m.overrides;
  global_variables = length m.globals;
  local_variables = 0;
  expressions = length m.expressions;
  functions = length m.functions;
  filters = length m.filters;
}

-- for what stands in a body of a module with tables of these sizes: a body has expressions and local variables of its own
abbrev pub sizes_in : Sizes → Body → Sizes
sizes_in sizes b = record sizes { local_variables = length b.locals; expressions = length b.expressions }
