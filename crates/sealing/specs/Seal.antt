-- seal: the tests that the check leaves out, in order.
use Rattle.std.specs.Prelude.{ℕ, suc, Bool, cond, not, ◌||◌, List, [], ◌∷◌, ◌++◌, length, map, take, drop, Some, filter, Option, nat_lt}
use Rattle.std.specs.List.{flat_map}
use Rattle.std.specs.Option.{option_map, option_to_list}
use Rattle.ir.specs.declared.handle.Table.TheVariants as table
use Rattle.ir.specs.declared.handle.Handle.{Handle}
use Rattle.records.specs.Handles.{handles_of}
use Rattle.records.specs.Record.{number}
use Rattle.rules.specs.declared.faults.Rule.TheVariants as rule
use Rattle.rules.specs.declared.faults.FaultKind.TheVariants as kind
use Rattle.rules.specs.declared.faults.Fault.{Fault}
use Rattle.rules.specs.declared.faults.Rejection.{Rejection}
use Rattle.rules.specs.declared.faults.Rejection.TheVariants.{Unfinished, Faulty}
use Rattle.rules.specs.declared.sizes.Sizes.{Sizes}
use Rattle.rules.specs.Module.{Item, Body, Module}
use Rattle.rules.specs.Kinds.{CallResult, Call, ImageAtomic, is}
use Rattle.rules.specs.Sizes.{sizes, sizes_in}
use Rattle.rules.specs.Items.{handles, fields, is_of, numbers, own, type_of, at}
use Rattle.rules.specs.Fault.{Test, first, earlier, all_inside, own_inside, numbered}
use Rattle.rules.specs.Check.{check_tests}
use Rattle.rules.specs.Once.{inits}
use Rattle.draft.specs.State.{State}
use Rattle.arena.specs.Viewing.{finished}
use Rattle.tables.specs.Tables.{records_of}

-- expressions, by the numbers of their kinds
abbrev pub FunctionArgument : ℕ
FunctionArgument = 73

abbrev pub GlobalVariable : ℕ
GlobalVariable = 74

abbrev pub LocalVariable : ℕ
LocalVariable = 75

-- the expressions that stand in bodies only
abbrev pub in_bodies_only : Item → Bool
in_bodies_only i = is FunctionArgument i || (is GlobalVariable i || (is LocalVariable i || is CallResult i))

-- the global expression with this number may stand there (refusal 11)
abbrev pub placed : ℕ → Item → Test
placed x i = record {
  passes = not (in_bodies_only i);
  fault = record { rule = rule.Placed; kind = kind.Expression; first = x; second = 0; place = i.place };
}

-- an argument's number is below the number of arguments (refusal 12)
abbrev pub argument : ℕ → ℕ → ℕ → Test
argument count place n = record {
  passes = nat_lt n count;
  fault = record { rule = rule.SealedInside; kind = kind.Argument; first = n; second = 0; place = place };
}

-- the ty of an expression
abbrev pub ty_of : Item → List Handle
ty_of i = filter (is_of table.Types) (handles_of i.bytes)

-- it is inside (refusal 12)
abbrev pub ty_tests : Sizes → Item → List Test
ty_tests sizes i = all_inside rule.SealedInside sizes i.place (ty_of i)

-- the global expression x: it may stand there, its operands are earlier (refusal 13), its ty is inside
abbrev pub global_tests : Sizes → ℕ → Item → List Test
global_tests sizes x i = placed x i ∷ (map (earlier rule.SealedEarlier table.Expressions x i.place) (numbers table.Expressions (handles i)) ++ ty_tests sizes i)

-- the types that a global expression names: its ty, or the type of its constant or override
abbrev pub types_named : Module → Item → List ℕ
types_named m i = type_of i ++ (flat_map type_of (flat_map (at m.constants) (own table.Constants i)) ++ flat_map type_of (flat_map (at m.overrides) (own table.Overrides i)))

-- the types that the global expression i names are earlier than the type t, which stands at a place
abbrev pub waited_tests : Module → ℕ → ℕ → Item → List Test
waited_tests m t place i = map (earlier rule.SealedEarlier table.Types t place) (types_named m i)

-- so it is for every global expression up to the init e of a size of t
abbrev pub up_to_tests : Module → ℕ → ℕ → ℕ → List Test
up_to_tests m t place e = flat_map (waited_tests m t place) (take (suc e) m.expressions)

-- a type with a pending size whose override has an init
abbrev pub pending_tests : Module → ℕ → Item → List Test
pending_tests m t i = flat_map (up_to_tests m t i.place) (inits m i)

-- the number of the argument that a FunctionArgument gives
abbrev pub argument_number : Item → ℕ
argument_number i = number (drop 1 i.bytes)

-- it is inside
abbrev pub argument_tests : ℕ → Item → List Test
argument_tests count i = cond (is FunctionArgument i) (argument count i.place (argument_number i) ∷ []) []

-- an expression of a body with so many arguments
abbrev pub inner_tests : Sizes → ℕ → Item → List Test
inner_tests sizes count i = ty_tests sizes i ++ argument_tests count i

-- the expressions of a body
abbrev pub body_tests : Sizes → Body → List Test
body_tests sizes b = flat_map (inner_tests sizes (length b.arguments)) b.expressions

-- the functions that a body calls
abbrev pub calls : Body → List ℕ
calls b = numbers table.Functions (flat_map handles_of (records_of Call b.statements))

-- those that the function f calls are earlier than f
abbrev pub call_tests : ℕ → Body → List Test
call_tests f b = map (earlier rule.SealedEarlier table.Functions f b.opener.place) (calls b)

-- the special types that the check leaves out: external_texture_params, external_texture_transfer_function
abbrev pub special_tests : Sizes → Item → List Test
special_tests sizes i = all_inside rule.SealedInside sizes i.place (fields (3 ∷ 4 ∷ []) i)

-- the incoming payload of an entry point
abbrev pub payload_tests : Sizes → Body → List Test
payload_tests sizes b = all_inside rule.SealedInside sizes b.opener.place (fields (10 ∷ []) b.opener)

-- what an ImageAtomic compares with
abbrev pub compare_tests : Sizes → Item → List Test
compare_tests sizes s = cond (is ImageAtomic s) (all_inside rule.SealedInside sizes s.place (fields (3 ∷ []) s)) []

-- the statements of a body, in a module with tables of these sizes
abbrev pub compared_tests : Sizes → Body → List Test
compared_tests sizes b = flat_map (compare_tests (sizes_in sizes b)) b.statements

-- what is tested after the calls
abbrev pub other_tests : Module → List Test
other_tests m =
    flat_map (special_tests (sizes m)) (option_to_list m.special)
    ++ (flat_map (own_inside rule.SealedInside (sizes m)) m.predeclared
    ++ (flat_map (payload_tests (sizes m)) m.entries
    ++ (flat_map (compared_tests (sizes m)) m.functions
    ++ flat_map (compared_tests (sizes m)) m.entries)))

-- what is tested after the types
abbrev pub inner_then_other_tests : Module → List Test
inner_then_other_tests m =
    flat_map (body_tests (sizes m)) m.functions
    ++ (flat_map (body_tests (sizes m)) m.entries
    ++ (numbered call_tests m.functions
    ++ other_tests m))

-- the tests that the check leaves out
abbrev pub seal_tests : Module → List Test
seal_tests m =
    numbered (global_tests (sizes m)) m.expressions
    ++ (numbered (pending_tests m) m.types
    ++ inner_then_other_tests m)

-- the tests of the check, and then those that it leaves out
abbrev pub all_tests : Module → List Test
all_tests m = check_tests m ++ seal_tests m

-- the fault of a module: that of the first test that fails
abbrev pub seal : Module → Option Fault
seal m = first (all_tests m)

-- why a draft is not sealed, if it is not: a function is open or records wait, or else the first test of its module that fails
abbrev pub seal_of : State → Option Rejection
seal_of s = cond (finished s) (option_map Faulty (seal s.built)) (Some Unfinished)
