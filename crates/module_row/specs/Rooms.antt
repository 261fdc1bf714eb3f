-- For how many global expressions the types up to each wait.
use Rattle.std.specs.Prelude.{ℕ, List, length}
use Rattle.rules.specs.Module.{Module}
use Rattle.promises.specs.Rows.{room, counted}

-- the rooms of all types
abbrev pub rooms_of : Module → List ℕ
rooms_of m = counted (room m) 0 (length m.types)
