use Rattle.std.proofs.Common.{◌≡◌, drop}
use Rattle.std.specs.List.{flat_map}
use Rattle.records.specs.Handles.{field_of}
use Rattle.rules.specs.declared.faults.Rule.TheVariants as rule
use Rattle.rules.specs.Fault.{first, all_inside}
use Rattle.body.proofs.statements.check_fields.Given as goal

-- the handles in the fields so far are inside
abbrev pub invariant-loop-field : goal.invariant-loop-field
invariant-loop-field l = first (all_inside rule.Inside l.sizes l.place (flat_map (field_of l.«record».bytes.now) l.fields)) ≡ first (all_inside rule.Inside l.sizes l.place (flat_map (field_of l.«record».bytes.now) (drop l.field-index l.fields)))
