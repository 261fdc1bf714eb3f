-- Where the next record goes: one left fold over the kept records.
use Rattle.std.specs.Prelude.{ℕ, ◌+◌, Bool, true, false, ◌&&◌, ◌||◌, List, [], ◌∷◌, ◌++◌, map, length, is_some, Some, None, Ok, Err, fold, Option, Result, nat_le}
use Rattle.std.specs.Option.{is_none, option_eq}
use Rattle.ir.specs.declared.kinds.Kind.{Kind}
use Rattle.ir.specs.declared.kinds.Kind.TheVariants as kind
use Rattle.records.specs.declared.judge.Flaw.{Flaw}
use Rattle.records.specs.Record.{judged}
use Rattle.draft.specs.declared.state.BodyKind.{BodyKind}
use Rattle.draft.specs.declared.state.BodyKind.TheVariants as body_kind
use Rattle.draft.specs.declared.state.Bracket.{Bracket}
use Rattle.draft.specs.declared.state.Pieces.{Pieces}
use Rattle.draft.specs.declared.state.Pieces.TheVariants as pieces
use Rattle.draft.specs.declared.state.SlotTable.{SlotTable}
use Rattle.draft.specs.declared.state.SlotTable.TheVariants as table
use Rattle.draft.specs.declared.manner.Side.{Side}
use Rattle.draft.specs.declared.manner.Side.TheVariants as side
use Rattle.draft.specs.declared.manner.Manner.{Manner}
use Rattle.draft.specs.declared.manner.Motion.{Motion}
use Rattle.draft.specs.declared.manner.Motion.TheVariants as motion
use Rattle.draft.specs.declared.manner.Turn.{Turn}
use Rattle.draft.specs.declared.manner.Turn.TheVariants.{Keep, Push, Swap, Pop}
use Rattle.draft.specs.Manner.{manner_of, turn_of}
use Rattle.rules.specs.Module.{Record, Item, Body, Module, no_module, opened_by, nobody, add_type, add_override, add_constant, add_global, set_special, add_predeclared, add_filter, set_leaf, add_expression, add_function, add_entry, add_argument, set_result, add_local, add_named, add_inner, add_statement, closed}

pub record State : Type 0 where
  -- what has ended
  pub built : Module
  -- which body is open, and what stands in it so far
  pub opened : Option BodyKind
  pub body : Body
  -- the innermost first
  pub brackets : List Bracket
  pub waits : Option Pieces
  pub waiting : List Record
  -- records, and their bytes
  pub kept : ℕ
  pub used : ℕ

abbrev pub start : State
start = record { built = no_module; opened = None; body = nobody; brackets = []; waits = None; waiting = []; kept = 0; used = 0 }

abbrev pub innermost : List Bracket → Option Bracket
innermost [] = None
innermost (b ∷ bs) = Some b

abbrev pub outer : List Bracket → List Bracket
outer [] = []
outer (b ∷ bs) = bs

abbrev pub turned : Option Turn → List Bracket → List Bracket
turned None bs = bs
turned (Some Keep) bs = bs
turned (Some (Push b)) bs = b ∷ bs
turned (Some (Swap b)) bs = b ∷ outer bs
turned (Some Pop) bs = outer bs

abbrev pub open_after : Motion → Option BodyKind → Option BodyKind
open_after (motion.Begin p) o = p
open_after motion.Finish o = None
open_after m o = o

-- what waits after a record: one that joins is added, any other leaves none behind
abbrev pub waiting_after : Option Pieces → List Record → Record → List Record
waiting_after None ws r = []
waiting_after (Some p) ws r = ws ++ r ∷ []

-- an expression joins the open body, else the global table
abbrev global_expression : Option BodyKind → Module → Item → Module
global_expression None m i = add_expression m i
global_expression (Some k) m i = m

abbrev inner_expression : Option BodyKind → Body → Item → Body
inner_expression None b i = b
inner_expression (Some k) b i = add_inner b i

-- a body that ends joins its table
abbrev ended : Option BodyKind → Module → Body → Module
ended None m b = m
ended (Some body_kind.Function) m b = add_function m b
ended (Some body_kind.EntryPoint) m b = add_entry m b

abbrev pub module_after : Kind → Option BodyKind → Body → Item → Module → Module
module_after kind.Override o b i m = add_override m i
module_after kind.Constant o b i m = add_constant m i
module_after kind.GlobalVariable o b i m = add_global m i
module_after kind.SpecialTypes o b i m = set_special m i
module_after kind.Predeclared o b i m = add_predeclared m i
module_after kind.Filter o b i m = add_filter m i
module_after kind.Leaf o b i m = set_leaf m i
module_after (kind.Type t) o b i m = add_type m i
module_after kind.EndFunction o b i m = ended o m (closed b i)
module_after (kind.Expression e) o b i m = global_expression o m i
module_after k o b i m = m

abbrev pub body_after : Kind → Option BodyKind → Item → Body → Body
body_after kind.Function o i b = opened_by i
body_after kind.EntryPoint o i b = opened_by i
body_after kind.FunctionArgument o i b = add_argument b i
body_after kind.FunctionResult o i b = set_result b i
body_after kind.LocalVariable o i b = add_local b i
body_after kind.Named o i b = add_named b i
body_after kind.EndFunction o i b = nobody
body_after (kind.Expression e) o i b = inner_expression o b i
body_after (kind.Statement c) o i b = add_statement b i
body_after kind.End o i b = add_statement b i
body_after kind.EndLoop o i b = add_statement b i
body_after kind.Case o i b = add_statement b i
body_after kind.EndSwitch o i b = add_statement b i
body_after k o i b = b

-- the item that a record makes: it takes all that waits
abbrev pub item_of : State → Record → Item
item_of s r = record { place = s.kept; bytes = r; taken = s.waiting }

abbrev pub stepped : Kind → Record → State → State
stepped k r s = record {
  built = module_after k s.opened s.body (item_of s r) s.built;
  opened = open_after (manner_of k).motion s.opened;
  body = body_after k s.opened (item_of s r) s.body;
  brackets = turned (turn_of (innermost s.brackets) (manner_of k).motion) s.brackets;
  waits = (manner_of k).joins;
  waiting = waiting_after (manner_of k).joins s.waiting r;
  kept = s.kept + 1;
  used = s.used + length r;
}

abbrev pub step_judged : Result Kind Flaw → State → Record → State
step_judged (Err e) s r = s
step_judged (Ok k) s r = stepped k r s

unfoldable pub step : State → Record → State
step s r = step_judged (judged r) s r

unfoldable pub state : List Record → State
state records = fold step start records

abbrev pub same_pieces : Pieces → Pieces → Bool
same_pieces pieces.Members pieces.Members = true
same_pieces pieces.Members pieces.Operands = false
same_pieces pieces.Operands pieces.Members = false
same_pieces pieces.Operands pieces.Operands = true

-- while records wait, a record joins or takes them
abbrev pub meets : Option Pieces → Manner → Bool
meets None m = true
meets (Some p) m = option_eq same_pieces (Some p) m.joins || option_eq same_pieces (Some p) m.takes

-- inside of a body, or outside of every one
abbrev pub on_side : Option BodyKind → Side → Bool
on_side o side.Anywhere = true
on_side o side.Outside = is_none o
on_side o side.Inside = is_some o

abbrev pub fits_in : Option Pieces → Option BodyKind → Option Bracket → Manner → Bool
fits_in w o inner m = meets w m && (on_side o m.side && is_some (turn_of inner m.motion))

-- the record is in place
abbrev pub in_place : State → Kind → Bool
in_place s k = fits_in s.waits s.opened (innermost s.brackets) (manner_of k)

-- it would open a 65th bracket
abbrev pub deepens : Option Turn → ℕ → Bool
deepens (Some (Push b)) depth = nat_le 64 depth
deepens t depth = false

abbrev pub too_deep : State → Kind → Bool
too_deep s k = deepens (turn_of (innermost s.brackets) (manner_of k).motion) (length s.brackets)

-- the module so far, the open body too, as the last of its table
abbrev pub functions_now : Option BodyKind → Module → Body → List Body
functions_now (Some body_kind.Function) m b = m.functions ++ b ∷ []
functions_now o m b = m.functions

abbrev pub entries_now : Option BodyKind → Module → Body → List Body
entries_now (Some body_kind.EntryPoint) m b = m.entries ++ b ∷ []
entries_now o m b = m.entries

-- the items of a table, in the order of their numbers
abbrev pub items : SlotTable → State → List Item
items table.Unnumbered s = []
items table.Taken s = []
items table.Types s = s.built.types
items table.Overrides s = s.built.overrides
items table.Constants s = s.built.constants
items table.GlobalVariables s = s.built.globals
items table.Filters s = s.built.filters
items table.Expressions s = s.built.expressions
items table.Functions s = map (λ b. b.opener) (functions_now s.opened s.built s.body)
items table.EntryPoints s = map (λ b. b.opener) (entries_now s.opened s.built s.body)
items table.LocalVariables s = s.body.locals
items table.LocalExpressions s = s.body.expressions

-- an open body counts
abbrev pub function_open : Option BodyKind → ℕ
function_open (Some body_kind.Function) = 1
function_open o = 0

abbrev pub entry_open : Option BodyKind → ℕ
entry_open (Some body_kind.EntryPoint) = 1
entry_open o = 0

-- the number that the next item of the table gets, which is how many it has; 0 where no table numbers it
abbrev pub number_of_next : SlotTable → State → ℕ
number_of_next table.Unnumbered s = 0
number_of_next table.Taken s = 0
number_of_next table.Types s = length s.built.types
number_of_next table.Overrides s = length s.built.overrides
number_of_next table.Constants s = length s.built.constants
number_of_next table.GlobalVariables s = length s.built.globals
number_of_next table.Filters s = length s.built.filters
number_of_next table.Expressions s = length s.built.expressions
number_of_next table.Functions s = length s.built.functions + function_open s.opened
number_of_next table.EntryPoints s = length s.built.entries + entry_open s.opened
number_of_next table.LocalVariables s = length s.body.locals
number_of_next table.LocalExpressions s = length s.body.expressions

abbrev expressions_in : Option BodyKind → SlotTable
expressions_in None = table.Expressions
expressions_in (Some k) = table.LocalExpressions

-- the table of a record: an expression's is the open body's
abbrev pub table_in : Option BodyKind → SlotTable → SlotTable
table_in o table.Expressions = expressions_in o
table_in o t = t

abbrev pub table_of : State → Kind → SlotTable
table_of s k = table_in s.opened (manner_of k).table
