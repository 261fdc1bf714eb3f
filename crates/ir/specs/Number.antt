-- The number of each kind.
use Rattle.std.specs.Prelude.{ℕ, ◌+◌, ◌-◌, Bool, cond, ◌&&◌, ◌||◌, List, [], ◌∷◌, Some, None, Option, ◌==◌, nat_le}
use Rattle.std.specs.List.{slice_get}
use Rattle.ir.specs.declared.kinds.Kind.{Kind}
use Rattle.ir.specs.declared.kinds.Kind.TheVariants as kind
use Rattle.ir.specs.declared.kinds.TypeInner.{TypeInner}
use Rattle.ir.specs.declared.kinds.TypeInner.TheVariants as type
use Rattle.ir.specs.declared.kinds.Expression.{Expression}
use Rattle.ir.specs.declared.kinds.Expression.TheVariants as expression
use Rattle.ir.specs.declared.kinds.Statement.{Statement}
use Rattle.ir.specs.declared.kinds.Statement.TheVariants as statement

-- the cases of the three, in order of declaration
abbrev pub types : List TypeInner
types =
    type.Scalar ∷ type.Vector ∷ type.Matrix ∷ type.CooperativeMatrix ∷ type.Atomic ∷ type.Pointer ∷
    type.ValuePointer ∷ type.Array ∷ type.Struct ∷ type.Image ∷ type.Sampler ∷ type.AccelerationStructure ∷
    type.RayQuery ∷ type.BindingArray ∷ []

abbrev pub expressions : List Expression
expressions =
    expression.Literal ∷ expression.Constant ∷ expression.Override ∷ expression.ZeroValue ∷ expression.Compose ∷
    expression.Access ∷ expression.AccessIndex ∷ expression.Splat ∷ expression.Swizzle ∷
    expression.FunctionArgument ∷ expression.GlobalVariable ∷ expression.LocalVariable ∷ expression.Load ∷
    expression.ImageSample ∷ expression.ImageLoad ∷ expression.ImageQuery ∷ expression.Unary ∷
    expression.Binary ∷ expression.Select ∷ expression.Derivative ∷ expression.Relational ∷ expression.Math ∷
    expression.As ∷ expression.CallResult ∷ expression.AtomicResult ∷ expression.WorkGroupUniformLoadResult ∷
    expression.ArrayLength ∷ expression.RayQueryVertexPositions ∷ expression.RayQueryProceedResult ∷
    expression.RayQueryGetIntersection ∷ expression.SubgroupBallotResult ∷ expression.SubgroupOperationResult ∷
    expression.CooperativeLoad ∷ expression.CooperativeMultiplyAdd ∷ []

abbrev pub statements : List Statement
statements =
    statement.Emit ∷ statement.Block ∷ statement.If ∷ statement.Switch ∷ statement.Loop ∷ statement.Break ∷
    statement.Continue ∷ statement.Return ∷ statement.Kill ∷ statement.ControlBarrier ∷ statement.MemoryBarrier ∷
    statement.Store ∷ statement.ImageStore ∷ statement.Atomic ∷ statement.ImageAtomic ∷
    statement.WorkGroupUniformLoad ∷ statement.Call ∷ statement.RayQuery ∷ statement.RayPipelineFunction ∷
    statement.SubgroupBallot ∷ statement.SubgroupGather ∷ statement.SubgroupCollectiveOperation ∷
    statement.CooperativeStore ∷ []

-- the other kinds, each with its number
abbrev pub others : List (ℕ × Kind)
others =
    (1, kind.Member)
    ∷ (2, kind.Operand)
    ∷ (3, kind.Override)
    ∷ (4, kind.Constant)
    ∷ (5, kind.GlobalVariable)
    ∷ (6, kind.SpecialTypes)
    ∷ (7, kind.Predeclared)
    ∷ (8, kind.Filter)
    ∷ (9, kind.Leaf)
    ∷ (11, kind.Function)
    ∷ (12, kind.EntryPoint)
    ∷ (13, kind.FunctionArgument)
    ∷ (14, kind.FunctionResult)
    ∷ (15, kind.LocalVariable)
    ∷ (30, kind.Named)
    ∷ (31, kind.EndFunction)
    ∷ (151, kind.End)
    ∷ (152, kind.EndLoop)
    ∷ (153, kind.Case)
    ∷ (154, kind.EndSwitch)
    ∷ []

-- the kind in the row that has the number
abbrev pub found : ℕ → List (ℕ × Kind) → Option Kind
found n [] = None
found n (row ∷ rows) = cond (n == row.0) (Some row.1) (found n rows)

abbrev mapped : {A B : Type 0} → (A → B) → Option A → Option B
mapped f None = None
mapped f (Some x) = Some (f x)

-- from low to high, both included
abbrev pub within : ℕ → ℕ → ℕ → Bool
within low high n = nat_le low n && nat_le n high

-- the kind that has the number: types from 16 on, expressions from 64 on and statements from 128 on
abbrev pub kind_of : ℕ → Option Kind
kind_of n =
    cond (within 16 29 n) (mapped kind.Type (slice_get types (n - 16)))
    (cond (within 64 97 n) (mapped kind.Expression (slice_get expressions (n - 64)))
    (cond (within 128 150 n) (mapped kind.Statement (slice_get statements (n - 128)))
    (found n others)))

-- how many cases are declared before it
abbrev pub type_case : TypeInner → ℕ
type_case type.Scalar = 0
type_case type.Vector = 1
type_case type.Matrix = 2
type_case type.CooperativeMatrix = 3
type_case type.Atomic = 4
type_case type.Pointer = 5
type_case type.ValuePointer = 6
type_case type.Array = 7
type_case type.Struct = 8
type_case type.Image = 9
type_case type.Sampler = 10
type_case type.AccelerationStructure = 11
type_case type.RayQuery = 12
type_case type.BindingArray = 13

abbrev pub expression_case : Expression → ℕ
expression_case expression.Literal = 0
expression_case expression.Constant = 1
expression_case expression.Override = 2
expression_case expression.ZeroValue = 3
expression_case expression.Compose = 4
expression_case expression.Access = 5
expression_case expression.AccessIndex = 6
expression_case expression.Splat = 7
expression_case expression.Swizzle = 8
expression_case expression.FunctionArgument = 9
expression_case expression.GlobalVariable = 10
expression_case expression.LocalVariable = 11
expression_case expression.Load = 12
expression_case expression.ImageSample = 13
expression_case expression.ImageLoad = 14
expression_case expression.ImageQuery = 15
expression_case expression.Unary = 16
expression_case expression.Binary = 17
expression_case expression.Select = 18
expression_case expression.Derivative = 19
expression_case expression.Relational = 20
expression_case expression.Math = 21
expression_case expression.As = 22
expression_case expression.CallResult = 23
expression_case expression.AtomicResult = 24
expression_case expression.WorkGroupUniformLoadResult = 25
expression_case expression.ArrayLength = 26
expression_case expression.RayQueryVertexPositions = 27
expression_case expression.RayQueryProceedResult = 28
expression_case expression.RayQueryGetIntersection = 29
expression_case expression.SubgroupBallotResult = 30
expression_case expression.SubgroupOperationResult = 31
expression_case expression.CooperativeLoad = 32
expression_case expression.CooperativeMultiplyAdd = 33

abbrev pub statement_case : Statement → ℕ
statement_case statement.Emit = 0
statement_case statement.Block = 1
statement_case statement.If = 2
statement_case statement.Switch = 3
statement_case statement.Loop = 4
statement_case statement.Break = 5
statement_case statement.Continue = 6
statement_case statement.Return = 7
statement_case statement.Kill = 8
statement_case statement.ControlBarrier = 9
statement_case statement.MemoryBarrier = 10
statement_case statement.Store = 11
statement_case statement.ImageStore = 12
statement_case statement.Atomic = 13
statement_case statement.ImageAtomic = 14
statement_case statement.WorkGroupUniformLoad = 15
statement_case statement.Call = 16
statement_case statement.RayQuery = 17
statement_case statement.RayPipelineFunction = 18
statement_case statement.SubgroupBallot = 19
statement_case statement.SubgroupGather = 20
statement_case statement.SubgroupCollectiveOperation = 21
statement_case statement.CooperativeStore = 22

-- the number of a kind
abbrev pub number_of : Kind → ℕ
number_of kind.Member = 1
number_of kind.Operand = 2
number_of kind.Override = 3
number_of kind.Constant = 4
number_of kind.GlobalVariable = 5
number_of kind.SpecialTypes = 6
number_of kind.Predeclared = 7
number_of kind.Filter = 8
number_of kind.Leaf = 9
number_of kind.Function = 11
number_of kind.EntryPoint = 12
number_of kind.FunctionArgument = 13
number_of kind.FunctionResult = 14
number_of kind.LocalVariable = 15
number_of (kind.Type inner) = 16 + type_case inner
number_of kind.Named = 30
number_of kind.EndFunction = 31
number_of (kind.Expression expression) = 64 + expression_case expression
number_of (kind.Statement statement) = 128 + statement_case statement
number_of kind.End = 151
number_of kind.EndLoop = 152
number_of kind.Case = 153
number_of kind.EndSwitch = 154

-- SubgroupBallot and SubgroupGather: their second field is tested before their first
abbrev pub second_first : Kind → Bool
second_first k = number_of k == 147 || number_of k == 148
