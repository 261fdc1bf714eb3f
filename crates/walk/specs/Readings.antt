-- What the two readings of this crate mean.
use Rattle.std.specs.Prelude.{ℕ, ◌+◌, min, max, Bool, true, false, ◌&&◌, List, [], ◌∷◌, Some, Option}
use Rattle.ir.specs.declared.kinds.Kind.{Kind}
use Rattle.ir.specs.declared.kinds.Kind.TheVariants as kind
use Rattle.ir.specs.declared.kinds.Expression.{Expression}
use Rattle.ir.specs.declared.kinds.Expression.TheVariants as expression
use Rattle.ir.specs.Number.{kind_of}
use Rattle.walk.specs.Steps.{Steps}

-- one more than the deepest operand, and 1 without operands, up to what 32 bits hold
abbrev pub depth : Steps ℕ ℕ
depth = record {
  start = λ bytes. 0;
  take = λ deepest value. max deepest value;
  finish = λ deepest. min (deepest + 1) 4294967295;
}

-- the kinds of expression that are steady where all operands are
abbrev pub steady_expression : Expression → Bool
steady_expression expression.Literal = true
steady_expression expression.Constant = true
steady_expression expression.ZeroValue = true
steady_expression expression.Compose = true
steady_expression expression.Access = true
steady_expression expression.AccessIndex = true
steady_expression expression.Splat = true
steady_expression expression.Swizzle = true
steady_expression expression.Unary = true
steady_expression expression.Binary = true
steady_expression expression.Select = true
steady_expression expression.Relational = true
steady_expression expression.Math = true
steady_expression expression.As = true
steady_expression _ = false

-- no other kind is
abbrev pub steady_kind : Option Kind → Bool
steady_kind (Some (kind.Expression e)) = steady_expression e
steady_kind _ = false

-- a record is of the kind that its first byte is the number of
abbrev pub is_steady : List ℕ → Bool
is_steady [] = false
is_steady (byte ∷ body) = steady_kind (kind_of byte)

-- yes for a record of a steady kind whose operands are all steady
abbrev pub steady : Steps Bool Bool
steady = record {
  start = λ bytes. is_steady bytes;
  take = λ so_far value. so_far && value;
  finish = λ all. all;
}
