-- The counts of a draft, and how a record changes them.
use Rattle.std.specs.Prelude.{ℕ, ◌+◌, ◌-◌, cond, List, ◌++◌, length, reverse, replicate, Some, None, Option, ◌==◌, slice_index_or, slice_set}
use Rattle.draft.specs.declared.state.Bracket.{Bracket}
use Rattle.draft.specs.declared.state.Bracket.TheVariants as bracket
use Rattle.draft.specs.declared.state.Pieces.{Pieces}
use Rattle.draft.specs.declared.state.SlotTable.{SlotTable}
use Rattle.draft.specs.declared.state.SlotTable.TheVariants as table
use Rattle.draft.specs.declared.manner.Motion.{Motion}
use Rattle.draft.specs.declared.manner.Motion.TheVariants as motion
use Rattle.draft.specs.declared.manner.Turn.{Turn}
use Rattle.draft.specs.declared.manner.Turn.TheVariants.{Keep, Push, Swap, Pop}
use Rattle.draft.specs.declared.manner.Manner.{Manner}
use Rattle.draft.specs.declared.counts.Lengths.{Lengths}
use Rattle.draft.specs.declared.stack.Brackets.{Brackets}
use Rattle.draft.specs.declared.counts.Waiting.{Waiting}
use Rattle.draft.specs.declared.counts.Counts.{Counts}
use Rattle.draft.specs.Manner.{turn_of}
use Rattle.draft.specs.State.{State, number_of_next, table_in, open_after}

-- the open brackets as they stand in their array, the outermost first
abbrev pub stack_of : List Bracket → Brackets
stack_of bs = record { places = reverse bs ++ replicate (64 - length bs) bracket.Block; depth = length bs }

abbrev pub lengths_of : State → Lengths
lengths_of s = record {
  types = number_of_next table.Types s;
  overrides = number_of_next table.Overrides s;
  constants = number_of_next table.Constants s;
  globals = number_of_next table.GlobalVariables s;
  filters = number_of_next table.Filters s;
  expressions = number_of_next table.Expressions s;
  functions = number_of_next table.Functions s;
  entries = number_of_next table.EntryPoints s;
  locals = number_of_next table.LocalVariables s;
  inner = number_of_next table.LocalExpressions s;
}

-- what waits, and how many
abbrev pub waits_of : Option Pieces → ℕ → Waiting
waits_of w n = record { pieces = w; count = n }

-- the draft of a state: what the code holds of it
abbrev pub counts_of : State → Counts
counts_of s = record { kept = s.kept; used = s.used; lengths = lengths_of s; opened = s.opened; brackets = stack_of s.brackets; waits = waits_of s.waits (length s.waiting) }

-- the number that the counts give the next item of a table
abbrev pub counted : Lengths → SlotTable → ℕ
counted c table.Unnumbered = 0
counted c table.Taken = 0
counted c table.Types = c.types
counted c table.Overrides = c.overrides
counted c table.Constants = c.constants
counted c table.GlobalVariables = c.globals
counted c table.Filters = c.filters
counted c table.Expressions = c.expressions
counted c table.Functions = c.functions
counted c table.EntryPoints = c.entries
counted c table.LocalVariables = c.locals
counted c table.LocalExpressions = c.inner

-- one more item in a table
abbrev pub counted_more : Lengths → SlotTable → Lengths
counted_more c table.Unnumbered = c
counted_more c table.Taken = c
counted_more c table.Types = record c { types = c.types + 1 }
counted_more c table.Overrides = record c { overrides = c.overrides + 1 }
counted_more c table.Constants = record c { constants = c.constants + 1 }
counted_more c table.GlobalVariables = record c { globals = c.globals + 1 }
counted_more c table.Filters = record c { filters = c.filters + 1 }
counted_more c table.Expressions = record c { expressions = c.expressions + 1 }
counted_more c table.Functions = record c { functions = c.functions + 1 }
counted_more c table.EntryPoints = record c { entries = c.entries + 1 }
counted_more c table.LocalVariables = record c { locals = c.locals + 1 }
counted_more c table.LocalExpressions = record c { inner = c.inner + 1 }

-- a body's own tables begin empty, and end with it
abbrev pub cleared : Lengths → Lengths
cleared c = record c { locals = 0; inner = 0 }

abbrev pub moved : Lengths → Motion → Lengths
moved c (motion.Begin o) = cleared c
moved c motion.Finish = cleared c
moved c m = c

-- the innermost bracket
abbrev pub top : Brackets → Option Bracket
top b = cond (b.depth == 0) None (Some (slice_index_or b.places (b.depth - 1) bracket.Block))

abbrev pub stacked : Brackets → Turn → Brackets
stacked b Keep = b
stacked b (Push x) = record { places = slice_set b.places b.depth x; depth = b.depth + 1 }
stacked b (Swap x) = record { places = slice_set b.places (b.depth - 1) x; depth = b.depth }
stacked b Pop = record { places = slice_set b.places (b.depth - 1) bracket.Block; depth = b.depth - 1 }

abbrev pub turned_stack : Brackets → Option Turn → Brackets
turned_stack b None = b
turned_stack b (Some t) = stacked b t

-- how many wait after a record: one that joins is counted, any other leaves none behind
abbrev pub waiting_more : Option Pieces → ℕ → ℕ
waiting_more None n = 0
waiting_more (Some p) n = n + 1

-- the counts after one more record of this size
abbrev pub advanced : Counts → ℕ → Manner → Counts
advanced d size m = record {
  kept = d.kept + 1;
  used = d.used + size;
  lengths = moved (counted_more d.lengths (table_in d.opened m.table)) m.motion;
  opened = open_after m.motion d.opened;
  brackets = turned_stack d.brackets (turn_of (top d.brackets) m.motion);
  waits = waits_of m.joins (waiting_more m.joins d.waits.count);
}

-- the counts without what waits, which begins here
abbrev pub freed : Counts → ℕ → Counts
freed d from = record d { kept = d.kept - d.waits.count; used = from; waits = waits_of None 0 }
