-- What the iterators over operands have left.
use Rattle.std.specs.Prelude.{ℕ, List, ◌++◌}
use Rattle.std.specs.List.{flat_map}
use Rattle.ir.specs.declared.handle.Handle.{Handle}
use Rattle.ir.specs.Number.{number_of}
use Rattle.records.specs.Handles.{handles_of}
use Rattle.records.specs.Gathered.{handles_left}
use Rattle.records.specs.Image.{split}
use Rattle.rules.specs.Module.{Record}
use Rattle.rules.specs.Items.{numbers}
use Rattle.items.specs.Item.{items_left}
use Rattle.tables.specs.declared.others.OfKind.{OfKind}
use Rattle.tables.specs.declared.others.Others.{Others}
use Rattle.tables.specs.declared.others.Others.TheVariants.{Taken, Calls}
use Rattle.tables.specs.declared.operands.Operands.{Operands}
use Rattle.tables.specs.Tables.{records_of}

abbrev pub of_kind_left : OfKind → List Record
of_kind_left o = records_of (number_of o.kind) (items_left o.items)

abbrev pub others_left : Others → List Record
others_left (Taken records) = split records.rest.now
others_left (Calls results calls) = of_kind_left results ++ of_kind_left calls

-- the handles that are left to look at
abbrev pub handles_ahead : Operands → List Handle
handles_ahead o = handles_left o.handles ++ flat_map handles_of (others_left o.others)

abbrev pub operands_left : Operands → List ℕ
operands_left o = numbers o.table (handles_ahead o)
