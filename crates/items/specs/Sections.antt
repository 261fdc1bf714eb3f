-- Which records make the items of a list of a module or a body.
use Rattle.std.specs.Prelude.{ℕ, Bool, false, [], ◌∷◌}
use Rattle.ir.specs.Number.{within}
use Rattle.records.specs.Record.{judged}
use Rattle.rules.specs.Module.{Record}
use Rattle.draft.specs.declared.state.SlotTable.{SlotTable}
use Rattle.draft.specs.State.{State}
use Rattle.arena.specs.Memory.{table_judged}
use Rattle.arena.specs.Viewing.{same_table}
use Rattle.items.specs.declared.section.Section.{Section}
use Rattle.items.specs.declared.section.Section.TheVariants.{Numbered, Kinds}

-- the record's kind has a number from low to high
abbrev pub of_kinds : ℕ → ℕ → Record → Bool
of_kinds low high [] = false
of_kinds low high (byte ∷ body) = within low high byte

-- a record that this table numbers makes an item of the section
abbrev pub chosen : Section → SlotTable → Record → Bool
chosen (Numbered t) u r = same_table t u
chosen (Kinds low high) u r = of_kinds low high r

-- the record that comes next does
abbrev pub selects : Section → State → Record → Bool
selects sec s r = chosen sec (table_judged s (judged r)) r
