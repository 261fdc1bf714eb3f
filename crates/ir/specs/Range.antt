-- Ranges of expressions.
use Rattle.std.specs.Prelude.{ℕ, ◌-◌, cond, Some, None, Option, nat_lt}
use Rattle.ir.specs.declared.handle.HandleIn.{HandleIn}
use Rattle.ir.specs.declared.handle.tables.Expressions.{Expressions}
use Rattle.ir.specs.Handle.{numbered}

-- the first and the last number from start on and below end, if there is any
abbrev pub ends : ℕ → ℕ → Option (HandleIn Expressions × HandleIn Expressions)
ends start end = cond (nat_lt start end) (Some (numbered start, numbered (end - 1))) None
