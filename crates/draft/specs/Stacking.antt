-- What a turn asks of the number of open brackets.
use Rattle.std.specs.Prelude.{ℕ, ◌<◌, ◌≤◌}
use Rattle.draft.specs.declared.manner.Turn.{Turn}
use Rattle.draft.specs.declared.manner.Turn.TheVariants.{Keep, Push, Swap, Pop}

abbrev pub Turns : ℕ → Turn → Type 0
Turns depth Keep = depth ≤ 64
Turns depth (Push b) = depth < 64
Turns depth (Swap b) = (0 < depth) × (depth ≤ 64)
Turns depth Pop = (0 < depth) × (depth ≤ 64)
