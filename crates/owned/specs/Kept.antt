-- The records that an owned draft keeps.
use Rattle.std.specs.Prelude.{List, vec_items}
use Rattle.rules.specs.Module.{Record}
use Rattle.arena.specs.Memory.{records}
use Rattle.owned.specs.declared.owned.OwnedDraft.{OwnedDraft}

-- the kept records, read off the memory that it owns
abbrev pub kept_in : OwnedDraft → List Record
kept_in w = records w.draft (vec_items w.bytes) (vec_items w.slots)
