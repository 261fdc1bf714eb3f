-- What a reading means: three functions, over a running kind and a value kind.
use Rattle.std.specs.Prelude.{ℕ, List}

pub record Steps (W V : Type 0) : Type 0 where
  -- from the bytes of a record
  pub start : List ℕ → W
  -- with the value of one operand
  pub take : W → V → W
  -- the value, when those of all operands are taken
  pub finish : W → V
