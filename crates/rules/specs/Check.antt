-- check: the tests of a module, in order.
use Rattle.std.specs.Prelude.{ℕ, suc, cond, List, [], ◌∷◌, ◌++◌, map, take, drop, Some, None, filter, Option}
use Rattle.std.specs.List.{flat_map}
use Rattle.std.specs.Option.{option_to_list}
use Rattle.ir.specs.declared.handle.Table.TheVariants as table
use Rattle.ir.specs.declared.handle.Handle.{Handle}
use Rattle.ir.specs.declared.handle.Handle.TheVariants as handle
use Rattle.ir.specs.Handle.{named}
use Rattle.records.specs.Handles.{handles_of, tested_of}
use Rattle.records.specs.Record.{number}
use Rattle.rules.specs.declared.faults.Rule.TheVariants as rule
use Rattle.rules.specs.declared.faults.Fault.{Fault}
use Rattle.rules.specs.declared.sizes.Sizes.{Sizes}
use Rattle.rules.specs.Module.{Item, Body, Module}
use Rattle.rules.specs.Kinds.{Constant, Override, Compose, Emit, ImageAtomic, Call, is, makes_value}
use Rattle.rules.specs.Sizes.{sizes, sizes_in}
use Rattle.rules.specs.Items.{handles, fields, is_of, numbers, own, type_of, init_of, pending_of, at}
use Rattle.rules.specs.Fault.{Test, first, inside, earlier, range, all_inside, own_inside, numbered}

-- the init of a constant or an override that the global expression x names is earlier than x
abbrev pub value_tests : ℕ → ℕ → Item → List Test
value_tests x place v = map (earlier rule.Earlier table.Expressions x place) (init_of v)

-- a Constant: the constant is inside, its init earlier
abbrev pub constant_tests : Module → ℕ → ℕ → ℕ → List Test
constant_tests m x place c =
    inside rule.Inside (sizes m) place (named table.Constants c) ∷ flat_map (value_tests x place) (at m.constants c)

-- an Override: the override is inside, its init, if any, earlier
abbrev pub override_tests : Module → ℕ → ℕ → ℕ → List Test
override_tests m x place o =
    inside rule.Inside (sizes m) place (named table.Overrides o) ∷ flat_map (value_tests x place) (at m.overrides o)

-- the global expression x: a Constant, an Override, a Compose, whose components are earlier; other kinds have no test
abbrev pub const_expression_tests : Module → ℕ → Item → List Test
const_expression_tests m x i =
    cond (is Constant i) (flat_map (constant_tests m x i.place) (own table.Constants i))
    (cond (is Override i) (flat_map (override_tests m x i.place) (own table.Overrides i))
    (cond (is Compose i) (map (earlier rule.Earlier table.Expressions x i.place) (numbers table.Expressions (handles i))) []))

-- the type that testing a global expression returns: that of a ZeroValue or a Compose
abbrev pub returned : Item → List ℕ
returned i = cond (makes_value i) (type_of i) []

-- a global expression up to the init of a size of the type t, which stands at a place: its own tests, and the type that it returns is earlier than t
abbrev pub sized_tests : Module → ℕ → ℕ → ℕ → Item → List Test
sized_tests m t place x i = const_expression_tests m x i ++ map (earlier rule.Earlier table.Types t place) (returned i)

-- the init e of a size of the type t is inside, and every global expression up to it passes
abbrev pub init_tests : Module → ℕ → ℕ → ℕ → List Test
init_tests m t place e =
    inside rule.Inside (sizes m) place (named table.Expressions e) ∷ numbered (sized_tests m t place) (take (suc e) m.expressions)

-- the size of the type t is the override v: the type of v is earlier than t, and its init, if any, passes
abbrev pub size_tests : Module → ℕ → ℕ → Item → List Test
size_tests m t place v = map (earlier rule.Earlier table.Types t place) (type_of v) ++ flat_map (init_tests m t place) (init_of v)

-- the size of the type t is the override with the number o, which is inside
abbrev pub pending_tests : Module → ℕ → ℕ → ℕ → List Test
pending_tests m t place o =
    inside rule.Inside (sizes m) place (named table.Overrides o) ∷ flat_map (size_tests m t place) (at m.overrides o)

-- the base or the members of a type are earlier
abbrev pub base_tests : ℕ → Item → List Test
base_tests t i = map (earlier rule.Earlier table.Types t i.place) (numbers table.Types (handles i))

abbrev pub type_tests : Module → ℕ → Item → List Test
type_tests m t i = base_tests t i ++ flat_map (pending_tests m t i.place) (pending_of i)

-- the function g that is named in the function f, which stands at a place, is earlier than f
abbrev pub callee_tests : ℕ → Option ℕ → ℕ → List Test
callee_tests place f g = map (λ caller. earlier rule.Earlier table.Functions caller place g) (option_to_list f)

-- a handle of an expression of the function f, which stands at a place, or of an entry point, that names no expression:
-- it is inside; of the types only those of a ZeroValue and a Compose are tested
abbrev pub named_tests : Sizes → ℕ → Option ℕ → Item → Handle → List Test
named_tests sizes place f i (handle.Type h) = cond (makes_value i) (inside rule.Inside sizes i.place (handle.Type h) ∷ []) []
named_tests sizes place f i (handle.Expression h) = []
named_tests sizes place f i (handle.Function h) = inside rule.Inside sizes i.place (handle.Function h) ∷ callee_tests place f h.index
named_tests sizes place f i h = inside rule.Inside sizes i.place h ∷ []

-- the operands of the expression n are earlier
abbrev pub operand_tests : ℕ → Item → List Test
operand_tests n i = map (earlier rule.Earlier table.Expressions n i.place) (numbers table.Expressions (handles i))

-- the expression n of the function f, which stands at a place, or of an entry point: what it names is inside, its operands
-- are earlier
abbrev pub expression_tests : Sizes → ℕ → Option ℕ → ℕ → Item → List Test
expression_tests sizes place f n i = flat_map (named_tests sizes place f i) (handles_of i.bytes) ++ operand_tests n i

-- of a Call: function, operands, result
abbrev pub call_handles : Item → List Handle
call_handles s = fields (0 ∷ []) s ++ (flat_map handles_of s.taken ++ fields (1 ∷ []) s)

-- of an ImageAtomic: image, coordinate, array index, value; not what it compares with
abbrev pub image_atomic_handles : Item → List Handle
image_atomic_handles s = fields (0 ∷ 1 ∷ 2 ∷ 4 ∷ []) s

-- the handles of a statement in the order of their tests
abbrev pub tested : Item → List Handle
tested s = cond (is Call s) (call_handles s) (cond (is ImageAtomic s) (image_atomic_handles s) (tested_of s.bytes))

-- the start and the end of an Emit
abbrev pub start_of : Item → ℕ
start_of s = number (drop 1 s.bytes)

abbrev pub end_of : Item → ℕ
end_of s = number (drop 5 s.bytes)

-- a statement, or the record that closes a block: the range of an Emit, or handles
abbrev pub statement_tests : Sizes → Item → List Test
statement_tests sizes s =
    cond (is Emit s) (range sizes.expressions s.place (start_of s) (end_of s) ∷ [])
    (all_inside rule.Inside sizes s.place (tested s))

-- the leaf of a body
abbrev pub body_leaf : Item → List Handle
body_leaf o = filter (is_of table.Filters) (handles_of o.bytes)

-- a function f, or an entry point, in a module with tables of these sizes
abbrev pub body_tests : Sizes → Option ℕ → Body → List Test
body_tests sizes f b =
    flat_map (own_inside rule.Inside (sizes_in sizes b)) b.arguments
    ++ (flat_map (own_inside rule.Inside (sizes_in sizes b)) (option_to_list b.result)
    ++ (flat_map (own_inside rule.Inside (sizes_in sizes b)) b.locals
    ++ (flat_map (own_inside rule.Inside (sizes_in sizes b)) b.named
    ++ (numbered (expression_tests (sizes_in sizes b) b.opener.place f) b.expressions
    ++ (flat_map (statement_tests (sizes_in sizes b)) b.statements
    ++ all_inside rule.Inside sizes b.opener.place (body_leaf b.opener))))))

-- of an entry point's record: three sizes, task payload; output variable, vertex type, primitive type and two overrides of the mesh
abbrev pub entry_handles : Item → List Handle
entry_handles o =
    fields (4 ∷ 5 ∷ 6 ∷ 9 ∷ []) o
    ++ (filter (is_of table.GlobalVariables) (fields (8 ∷ []) o)
    ++ (filter (is_of table.Types) (fields (8 ∷ []) o)
    ++ filter (is_of table.Expressions) (fields (8 ∷ []) o)))

abbrev pub entry_tests : Sizes → Body → List Test
entry_tests sizes b = body_tests sizes None b ++ all_inside rule.Inside sizes b.opener.place (entry_handles b.opener)

-- ray_desc, ray_intersection, ray_vertex_return
abbrev pub special_tests : Sizes → Item → List Test
special_tests sizes i = all_inside rule.Inside sizes i.place (fields (0 ∷ 1 ∷ 2 ∷ []) i)

-- a filter's parent is earlier
abbrev pub filter_tests : ℕ → Item → List Test
filter_tests n i = map (earlier rule.Earlier table.Filters n i.place) (numbers table.Filters (handles i))

-- what is tested after the types and the global expressions: constants, overrides and global variables have their type and init inside
abbrev pub later_tests : Module → List Test
later_tests m =
    flat_map (own_inside rule.Inside (sizes m)) m.constants
    ++ (flat_map (own_inside rule.Inside (sizes m)) m.overrides
    ++ (flat_map (own_inside rule.Inside (sizes m)) m.globals
    ++ (flat_map (entry_tests (sizes m)) m.entries
    ++ (numbered (λ f. body_tests (sizes m) (Some f)) m.functions
    ++ (flat_map (special_tests (sizes m)) (option_to_list m.special)
    ++ (numbered filter_tests m.filters
    ++ flat_map (own_inside rule.Inside (sizes m)) (option_to_list m.leaf)))))))

abbrev pub check_tests : Module → List Test
check_tests m = numbered (type_tests m) m.types ++ (numbered (const_expression_tests m) m.expressions ++ later_tests m)

-- the fault of a module: that of the first test that fails
abbrev pub check : Module → Option Fault
check m = first (check_tests m)
