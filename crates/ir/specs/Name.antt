-- The names of tables and kinds in print: tables by what their handles name, kinds as naga has them.
use Rattle.std.specs.Prelude.{ℕ, List, codes}
use Rattle.ir.specs.declared.handle.Table.{Table}
use Rattle.ir.specs.declared.handle.Table.TheVariants as table
use Rattle.ir.specs.declared.kinds.Kind.{Kind}
use Rattle.ir.specs.declared.kinds.Kind.TheVariants as kind
use Rattle.ir.specs.declared.kinds.TypeInner.{TypeInner}
use Rattle.ir.specs.declared.kinds.TypeInner.TheVariants as type
use Rattle.ir.specs.declared.kinds.Expression.{Expression}
use Rattle.ir.specs.declared.kinds.Expression.TheVariants as expression
use Rattle.ir.specs.declared.kinds.Statement.{Statement}
use Rattle.ir.specs.declared.kinds.Statement.TheVariants as statement

-- what the handles of a table name
abbrev pub table_name : Table → List ℕ
table_name table.Types = codes "type"
table_name table.Constants = codes "constant"
table_name table.Overrides = codes "override"
table_name table.GlobalVariables = codes "global variable"
table_name table.LocalVariables = codes "local variable"
table_name table.Expressions = codes "expression"
table_name table.Functions = codes "function"
table_name table.Filters = codes "filter"
table_name table.EntryPoints = codes "entry point"

abbrev pub type_name : TypeInner → List ℕ
type_name type.Scalar = codes "TypeInner::Scalar"
type_name type.Vector = codes "TypeInner::Vector"
type_name type.Matrix = codes "TypeInner::Matrix"
type_name type.CooperativeMatrix = codes "TypeInner::CooperativeMatrix"
type_name type.Atomic = codes "TypeInner::Atomic"
type_name type.Pointer = codes "TypeInner::Pointer"
type_name type.ValuePointer = codes "TypeInner::ValuePointer"
type_name type.Array = codes "TypeInner::Array"
type_name type.Struct = codes "TypeInner::Struct"
type_name type.Image = codes "TypeInner::Image"
type_name type.Sampler = codes "TypeInner::Sampler"
type_name type.AccelerationStructure = codes "TypeInner::AccelerationStructure"
type_name type.RayQuery = codes "TypeInner::RayQuery"
type_name type.BindingArray = codes "TypeInner::BindingArray"

abbrev pub expression_name : Expression → List ℕ
expression_name expression.Literal = codes "Expression::Literal"
expression_name expression.Constant = codes "Expression::Constant"
expression_name expression.Override = codes "Expression::Override"
expression_name expression.ZeroValue = codes "Expression::ZeroValue"
expression_name expression.Compose = codes "Expression::Compose"
expression_name expression.Access = codes "Expression::Access"
expression_name expression.AccessIndex = codes "Expression::AccessIndex"
expression_name expression.Splat = codes "Expression::Splat"
expression_name expression.Swizzle = codes "Expression::Swizzle"
expression_name expression.FunctionArgument = codes "Expression::FunctionArgument"
expression_name expression.GlobalVariable = codes "Expression::GlobalVariable"
expression_name expression.LocalVariable = codes "Expression::LocalVariable"
expression_name expression.Load = codes "Expression::Load"
expression_name expression.ImageSample = codes "Expression::ImageSample"
expression_name expression.ImageLoad = codes "Expression::ImageLoad"
expression_name expression.ImageQuery = codes "Expression::ImageQuery"
expression_name expression.Unary = codes "Expression::Unary"
expression_name expression.Binary = codes "Expression::Binary"
expression_name expression.Select = codes "Expression::Select"
expression_name expression.Derivative = codes "Expression::Derivative"
expression_name expression.Relational = codes "Expression::Relational"
expression_name expression.Math = codes "Expression::Math"
expression_name expression.As = codes "Expression::As"
expression_name expression.CallResult = codes "Expression::CallResult"
expression_name expression.AtomicResult = codes "Expression::AtomicResult"
expression_name expression.WorkGroupUniformLoadResult = codes "Expression::WorkGroupUniformLoadResult"
expression_name expression.ArrayLength = codes "Expression::ArrayLength"
expression_name expression.RayQueryVertexPositions = codes "Expression::RayQueryVertexPositions"
expression_name expression.RayQueryProceedResult = codes "Expression::RayQueryProceedResult"
expression_name expression.RayQueryGetIntersection = codes "Expression::RayQueryGetIntersection"
expression_name expression.SubgroupBallotResult = codes "Expression::SubgroupBallotResult"
expression_name expression.SubgroupOperationResult = codes "Expression::SubgroupOperationResult"
expression_name expression.CooperativeLoad = codes "Expression::CooperativeLoad"
expression_name expression.CooperativeMultiplyAdd = codes "Expression::CooperativeMultiplyAdd"

abbrev pub statement_name : Statement → List ℕ
statement_name statement.Emit = codes "Statement::Emit"
statement_name statement.Block = codes "Statement::Block"
statement_name statement.If = codes "Statement::If"
statement_name statement.Switch = codes "Statement::Switch"
statement_name statement.Loop = codes "Statement::Loop"
statement_name statement.Break = codes "Statement::Break"
statement_name statement.Continue = codes "Statement::Continue"
statement_name statement.Return = codes "Statement::Return"
statement_name statement.Kill = codes "Statement::Kill"
statement_name statement.ControlBarrier = codes "Statement::ControlBarrier"
statement_name statement.MemoryBarrier = codes "Statement::MemoryBarrier"
statement_name statement.Store = codes "Statement::Store"
statement_name statement.ImageStore = codes "Statement::ImageStore"
statement_name statement.Atomic = codes "Statement::Atomic"
statement_name statement.ImageAtomic = codes "Statement::ImageAtomic"
statement_name statement.WorkGroupUniformLoad = codes "Statement::WorkGroupUniformLoad"
statement_name statement.Call = codes "Statement::Call"
statement_name statement.RayQuery = codes "Statement::RayQuery"
statement_name statement.RayPipelineFunction = codes "Statement::RayPipelineFunction"
statement_name statement.SubgroupBallot = codes "Statement::SubgroupBallot"
statement_name statement.SubgroupGather = codes "Statement::SubgroupGather"
statement_name statement.SubgroupCollectiveOperation = codes "Statement::SubgroupCollectiveOperation"
statement_name statement.CooperativeStore = codes "Statement::CooperativeStore"

-- the name of a kind; of a type, an expression or a statement with that in front
abbrev pub kind_name : Kind → List ℕ
kind_name kind.Member = codes "StructMember"
kind_name kind.Operand = codes "Operand"
kind_name kind.Override = codes "Override"
kind_name kind.Constant = codes "Constant"
kind_name kind.GlobalVariable = codes "GlobalVariable"
kind_name kind.SpecialTypes = codes "SpecialTypes"
kind_name kind.Predeclared = codes "PredeclaredType"
kind_name kind.Filter = codes "DiagnosticFilterNode"
kind_name kind.Leaf = codes "DiagnosticFilterLeaf"
kind_name kind.Function = codes "Function"
kind_name kind.EntryPoint = codes "EntryPoint"
kind_name kind.FunctionArgument = codes "FunctionArgument"
kind_name kind.FunctionResult = codes "FunctionResult"
kind_name kind.LocalVariable = codes "LocalVariable"
kind_name (kind.Type inner) = type_name inner
kind_name kind.Named = codes "NamedExpression"
kind_name kind.EndFunction = codes "EndFunction"
kind_name (kind.Expression expression) = expression_name expression
kind_name (kind.Statement statement) = statement_name statement
kind_name kind.End = codes "End"
kind_name kind.EndLoop = codes "EndLoop"
kind_name kind.Case = codes "SwitchCase"
kind_name kind.EndSwitch = codes "EndSwitch"
