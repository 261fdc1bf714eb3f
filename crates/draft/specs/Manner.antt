-- How the records of each kind behave: where they stand, what they have to do with those that wait, what they do to the brackets, and their table.
use Rattle.std.specs.Prelude.{Some, None, Option}
use Rattle.ir.specs.declared.kinds.Kind.{Kind}
use Rattle.ir.specs.declared.kinds.Kind.TheVariants as kind
use Rattle.ir.specs.declared.kinds.TypeInner.{TypeInner}
use Rattle.ir.specs.declared.kinds.TypeInner.TheVariants as type
use Rattle.ir.specs.declared.kinds.Expression.{Expression}
use Rattle.ir.specs.declared.kinds.Expression.TheVariants as expression
use Rattle.ir.specs.declared.kinds.Statement.{Statement}
use Rattle.ir.specs.declared.kinds.Statement.TheVariants as statement
use Rattle.draft.specs.declared.state.BodyKind.TheVariants as body_kind
use Rattle.draft.specs.declared.state.Bracket.{Bracket}
use Rattle.draft.specs.declared.state.Bracket.TheVariants as bracket
use Rattle.draft.specs.declared.state.Pieces.{Pieces}
use Rattle.draft.specs.declared.state.Pieces.TheVariants as pieces
use Rattle.draft.specs.declared.state.SlotTable.{SlotTable}
use Rattle.draft.specs.declared.state.SlotTable.TheVariants as table
use Rattle.draft.specs.declared.manner.Side.{Side}
use Rattle.draft.specs.declared.manner.Side.TheVariants as side
use Rattle.draft.specs.declared.manner.Motion.{Motion}
use Rattle.draft.specs.declared.manner.Motion.TheVariants as motion
use Rattle.draft.specs.declared.manner.Turn.{Turn}
use Rattle.draft.specs.declared.manner.Turn.TheVariants.{Keep, Push, Swap, Pop}
use Rattle.draft.specs.declared.manner.Manner.{Manner}

-- a Struct takes members
abbrev pub taken_by_type : TypeInner → Option Pieces
taken_by_type type.Struct = Some pieces.Members
taken_by_type t = None

-- a Compose takes operands
abbrev pub taken_by_expression : Expression → Option Pieces
taken_by_expression expression.Compose = Some pieces.Operands
taken_by_expression e = None

-- and so does a Call
abbrev pub taken_by_statement : Statement → Option Pieces
taken_by_statement statement.Call = Some pieces.Operands
taken_by_statement s = None

-- four statements open a bracket
abbrev pub statement_motion : Statement → Motion
statement_motion statement.Block = motion.Enter bracket.Block
statement_motion statement.If = motion.Enter bracket.Accept
statement_motion statement.Switch = motion.Enter bracket.Switch
statement_motion statement.Loop = motion.Enter bracket.Body
statement_motion s = motion.Statement

abbrev pub outside_as : Option Pieces → Motion → SlotTable → Manner
outside_as w m t = record { side = side.Outside; joins = w; takes = None; motion = m; table = t }

abbrev pub inside_as : Option Pieces → Motion → SlotTable → Manner
inside_as w m t = record { side = side.Inside; joins = None; takes = w; motion = m; table = t }

abbrev pub waiting_as : Side → Option Pieces → Manner
waiting_as s w = record { side = s; joins = w; takes = None; motion = motion.Stay; table = table.Taken }

abbrev pub taking_as : Side → Option Pieces → SlotTable → Manner
taking_as s w t = record { side = s; joins = None; takes = w; motion = motion.Stay; table = t }

abbrev pub manner_of : Kind → Manner
manner_of kind.Member = waiting_as side.Outside (Some pieces.Members)
manner_of kind.Operand = waiting_as side.Anywhere (Some pieces.Operands)
manner_of kind.Override = outside_as None motion.Stay table.Overrides
manner_of kind.Constant = outside_as None motion.Stay table.Constants
manner_of kind.GlobalVariable = outside_as None motion.Stay table.GlobalVariables
manner_of kind.SpecialTypes = outside_as None motion.Stay table.Unnumbered
manner_of kind.Predeclared = outside_as None motion.Stay table.Unnumbered
manner_of kind.Filter = outside_as None motion.Stay table.Filters
manner_of kind.Leaf = outside_as None motion.Stay table.Unnumbered
manner_of kind.Function = outside_as None (motion.Begin (Some body_kind.Function)) table.Functions
manner_of kind.EntryPoint = outside_as None (motion.Begin (Some body_kind.EntryPoint)) table.EntryPoints
manner_of kind.FunctionArgument = inside_as None motion.Stay table.Unnumbered
manner_of kind.FunctionResult = inside_as None motion.Stay table.Unnumbered
manner_of kind.LocalVariable = inside_as None motion.Stay table.LocalVariables
manner_of (kind.Type inner) = taking_as side.Outside (taken_by_type inner) table.Types
manner_of kind.Named = inside_as None motion.Stay table.Unnumbered
manner_of kind.EndFunction = inside_as None motion.Finish table.Unnumbered
manner_of (kind.Expression e) = taking_as side.Anywhere (taken_by_expression e) table.Expressions
manner_of (kind.Statement s) = inside_as (taken_by_statement s) (statement_motion s) table.Unnumbered
manner_of kind.End = inside_as None motion.End table.Unnumbered
manner_of kind.EndLoop = inside_as None motion.EndLoop table.Unnumbered
manner_of kind.Case = inside_as None motion.Case table.Unnumbered
manner_of kind.EndSwitch = inside_as None motion.EndSwitch table.Unnumbered

-- anywhere but directly in a Switch
abbrev in_block : Option Bracket → Turn → Option Turn
in_block (Some bracket.Switch) t = None
in_block b t = Some t

-- the end of a block
abbrev at_end : Option Bracket → Option Turn
at_end (Some bracket.Accept) = Some (Swap bracket.Reject)
at_end (Some bracket.Body) = Some (Swap bracket.Continuing)
at_end (Some bracket.Block) = Some Pop
at_end (Some bracket.Reject) = Some Pop
at_end (Some bracket.Case) = Some Pop
at_end b = None

-- the end of a loop's second half
abbrev at_loop_end : Option Bracket → Option Turn
at_loop_end (Some bracket.Continuing) = Some Pop
at_loop_end b = None

-- directly in a Switch
abbrev in_switch : Option Bracket → Turn → Option Turn
in_switch (Some bracket.Switch) t = Some t
in_switch b t = None

-- outside of every bracket
abbrev in_none : Option Bracket → Option Turn
in_none None = Some Keep
in_none (Some b) = None

-- what becomes of the innermost bracket, if the record fits it
abbrev pub turn_of : Option Bracket → Motion → Option Turn
turn_of innermost motion.Stay = Some Keep
turn_of innermost (motion.Begin o) = Some Keep
turn_of innermost motion.Finish = in_none innermost
turn_of innermost motion.Statement = in_block innermost Keep
turn_of innermost (motion.Enter b) = in_block innermost (Push b)
turn_of innermost motion.End = at_end innermost
turn_of innermost motion.EndLoop = at_loop_end innermost
turn_of innermost motion.Case = in_switch innermost (Push bracket.Case)
turn_of innermost motion.EndSwitch = in_switch innermost Pop
