-- What the body of each kind of record is made of, field by field.
use Rattle.std.specs.Prelude.{ℕ, ◌+◌, List, [], ◌∷◌}
use Rattle.ir.specs.declared.handle.Table.{Table}
use Rattle.ir.specs.declared.handle.Table.TheVariants.{Types, Constants, Overrides, GlobalVariables, LocalVariables, Expressions, Functions, Filters}
use Rattle.ir.specs.declared.fields.Word.TheVariants as word
use Rattle.ir.specs.declared.fields.Cases.TheVariants as cases
use Rattle.ir.specs.declared.fields.Field.{Field}
use Rattle.ir.specs.declared.fields.Field.TheVariants.{Word as one, Case}
use Rattle.ir.specs.declared.kinds.Kind.{Kind}
use Rattle.ir.specs.declared.kinds.Kind.TheVariants as kind
use Rattle.ir.specs.declared.kinds.TypeInner.{TypeInner}
use Rattle.ir.specs.declared.kinds.TypeInner.TheVariants as type
use Rattle.ir.specs.declared.kinds.Expression.{Expression}
use Rattle.ir.specs.declared.kinds.Expression.TheVariants as expression
use Rattle.ir.specs.declared.kinds.Statement.{Statement}
use Rattle.ir.specs.declared.kinds.Statement.TheVariants as statement
use Rattle.ir.specs.Field.{width_of}

abbrev mark : Field
mark = one word.Mark

abbrev number : Field
number = one word.Number

abbrev flag : Field
flag = Case cases.Bool

-- a handle of a table
abbrev the : Table → Field
the t = one (word.Handle t)

-- a handle of a table, or none
abbrev maybe : Table → Field
maybe t = one (word.Optional t)

-- the name, and then the fields of the case
abbrev pub type_layout : TypeInner → List Field
type_layout type.Scalar = mark ∷ mark ∷ []
type_layout type.Vector = mark ∷ mark ∷ mark ∷ []
type_layout type.Matrix = mark ∷ mark ∷ mark ∷ mark ∷ []
type_layout type.CooperativeMatrix = mark ∷ mark ∷ mark ∷ mark ∷ mark ∷ []
type_layout type.Atomic = mark ∷ mark ∷ []
type_layout type.Pointer = mark ∷ the Types ∷ mark ∷ []
type_layout type.ValuePointer = mark ∷ mark ∷ mark ∷ mark ∷ []
type_layout type.Array = mark ∷ the Types ∷ Case cases.ArraySize ∷ number ∷ []
type_layout type.Struct = mark ∷ number ∷ []
type_layout type.Image = mark ∷ mark ∷ flag ∷ mark ∷ []
type_layout type.Sampler = mark ∷ flag ∷ []
type_layout type.AccelerationStructure = mark ∷ flag ∷ []
type_layout type.RayQuery = mark ∷ flag ∷ []
type_layout type.BindingArray = mark ∷ the Types ∷ Case cases.ArraySize ∷ []

abbrev pub expression_layout : Expression → List Field
expression_layout expression.Literal = mark ∷ []
expression_layout expression.Constant = the Constants ∷ []
expression_layout expression.Override = the Overrides ∷ []
expression_layout expression.ZeroValue = the Types ∷ []
expression_layout expression.Compose = the Types ∷ []
expression_layout expression.Access = the Expressions ∷ the Expressions ∷ []
expression_layout expression.AccessIndex = the Expressions ∷ number ∷ []
expression_layout expression.Splat = mark ∷ the Expressions ∷ []
expression_layout expression.Swizzle = mark ∷ the Expressions ∷ mark ∷ []
expression_layout expression.FunctionArgument = number ∷ []
expression_layout expression.GlobalVariable = the GlobalVariables ∷ []
expression_layout expression.LocalVariable = the LocalVariables ∷ []
expression_layout expression.Load = the Expressions ∷ []
expression_layout expression.ImageSample = the Expressions ∷ the Expressions ∷ mark ∷ the Expressions ∷ maybe Expressions ∷ maybe Expressions ∷ Case cases.SampleLevel ∷ maybe Expressions ∷ flag ∷ []
expression_layout expression.ImageLoad = the Expressions ∷ the Expressions ∷ maybe Expressions ∷ maybe Expressions ∷ maybe Expressions ∷ []
expression_layout expression.ImageQuery = the Expressions ∷ Case cases.ImageQuery ∷ []
expression_layout expression.Unary = mark ∷ the Expressions ∷ []
expression_layout expression.Binary = mark ∷ the Expressions ∷ the Expressions ∷ []
expression_layout expression.Select = the Expressions ∷ the Expressions ∷ the Expressions ∷ []
expression_layout expression.Derivative = mark ∷ mark ∷ the Expressions ∷ []
expression_layout expression.Relational = mark ∷ the Expressions ∷ []
expression_layout expression.Math = mark ∷ the Expressions ∷ maybe Expressions ∷ maybe Expressions ∷ maybe Expressions ∷ []
expression_layout expression.As = the Expressions ∷ mark ∷ mark ∷ []
expression_layout expression.CallResult = the Functions ∷ []
expression_layout expression.AtomicResult = the Types ∷ flag ∷ []
expression_layout expression.WorkGroupUniformLoadResult = the Types ∷ []
expression_layout expression.ArrayLength = the Expressions ∷ []
expression_layout expression.RayQueryVertexPositions = the Expressions ∷ flag ∷ []
expression_layout expression.RayQueryProceedResult = []
expression_layout expression.RayQueryGetIntersection = the Expressions ∷ flag ∷ []
expression_layout expression.SubgroupBallotResult = []
expression_layout expression.SubgroupOperationResult = the Types ∷ []
expression_layout expression.CooperativeLoad = mark ∷ mark ∷ mark ∷ the Expressions ∷ the Expressions ∷ flag ∷ []
expression_layout expression.CooperativeMultiplyAdd = the Expressions ∷ the Expressions ∷ the Expressions ∷ []

-- blocks and lists stand as records of their own, and the break_if of a loop at its end
abbrev pub statement_layout : Statement → List Field
statement_layout statement.Emit = number ∷ number ∷ []
statement_layout statement.Block = []
statement_layout statement.If = the Expressions ∷ []
statement_layout statement.Switch = the Expressions ∷ []
statement_layout statement.Loop = []
statement_layout statement.Break = []
statement_layout statement.Continue = []
statement_layout statement.Return = maybe Expressions ∷ []
statement_layout statement.Kill = []
statement_layout statement.ControlBarrier = mark ∷ []
statement_layout statement.MemoryBarrier = mark ∷ []
statement_layout statement.Store = the Expressions ∷ the Expressions ∷ []
statement_layout statement.ImageStore = the Expressions ∷ the Expressions ∷ maybe Expressions ∷ the Expressions ∷ []
statement_layout statement.Atomic = the Expressions ∷ Case cases.AtomicFunction ∷ the Expressions ∷ maybe Expressions ∷ []
statement_layout statement.ImageAtomic = the Expressions ∷ the Expressions ∷ maybe Expressions ∷ Case cases.AtomicFunction ∷ the Expressions ∷ []
statement_layout statement.WorkGroupUniformLoad = the Expressions ∷ the Expressions ∷ []
statement_layout statement.Call = the Functions ∷ maybe Expressions ∷ []
statement_layout statement.RayQuery = the Expressions ∷ Case cases.RayQueryFunction ∷ []
statement_layout statement.RayPipelineFunction = Case cases.RayPipelineFunction ∷ []
statement_layout statement.SubgroupBallot = the Expressions ∷ maybe Expressions ∷ []
statement_layout statement.SubgroupGather = Case cases.GatherMode ∷ the Expressions ∷ the Expressions ∷ []
statement_layout statement.SubgroupCollectiveOperation = mark ∷ mark ∷ the Expressions ∷ the Expressions ∷ []
statement_layout statement.CooperativeStore = the Expressions ∷ the Expressions ∷ the Expressions ∷ flag ∷ []

abbrev pub layout : Kind → List Field
layout kind.Member = mark ∷ the Types ∷ mark ∷ number ∷ []
layout kind.Operand = the Expressions ∷ []
layout kind.Override = mark ∷ mark ∷ the Types ∷ maybe Expressions ∷ []
layout kind.Constant = mark ∷ the Types ∷ the Expressions ∷ []
layout kind.GlobalVariable = mark ∷ mark ∷ mark ∷ the Types ∷ maybe Expressions ∷ mark ∷ []
layout kind.SpecialTypes = maybe Types ∷ maybe Types ∷ maybe Types ∷ maybe Types ∷ maybe Types ∷ []
layout kind.Predeclared = mark ∷ the Types ∷ []
layout kind.Filter = mark ∷ maybe Filters ∷ []
layout kind.Leaf = maybe Filters ∷ []
layout kind.Function = mark ∷ maybe Filters ∷ []
layout kind.EntryPoint = mark ∷ mark ∷ mark ∷ mark ∷ maybe Expressions ∷ maybe Expressions ∷ maybe Expressions ∷ maybe Filters ∷ Case cases.MeshInfo ∷ maybe GlobalVariables ∷ maybe GlobalVariables ∷ []
layout kind.FunctionArgument = mark ∷ the Types ∷ mark ∷ []
layout kind.FunctionResult = the Types ∷ mark ∷ []
layout kind.LocalVariable = mark ∷ the Types ∷ maybe Expressions ∷ []
layout (kind.Type inner) = type_layout inner
layout kind.Named = the Expressions ∷ mark ∷ []
layout kind.EndFunction = []
layout (kind.Expression expression) = expression_layout expression
layout (kind.Statement statement) = statement_layout statement
layout kind.End = []
layout kind.EndLoop = maybe Expressions ∷ []
layout kind.Case = mark ∷ flag ∷ []
layout kind.EndSwitch = []

-- how many bytes some fields take
abbrev pub size_of : List Field → ℕ
size_of [] = 0
size_of (f ∷ fs) = width_of f + size_of fs
