use Rattle.std.proofs.Common.{◌∙◌}
use Rattle.records.proofs.Swapping.{same_handles, tested_are, tested_plain, tested_none_of}
use Rattle.records.proofs.image.Record.tested_handles.Goals as goal
use Rattle.records.proofs.image.Record.tested_handles.Goals.{in_default-via-in-Ok+else-second_first, in_default-via-in_default}

pub returns-in-Ok : goal.returns-in-Ok
returns-in-Ok c = record {
  order = c.second_first-in-Ok.ensures ∙ tested_are c.args.self.bytes.now _ c.in-Ok.ensures c.if-second_first.ensures;
  same = same_handles c.args.self.bytes.now;
}

pub returns-in_default : goal.returns-in_default
returns-in_default c = record {
  order = c.handles.ensures ∙ elim c.in_default.branch [
    | in_default-via-in-Ok+else-second_first w ↦ tested_plain c.args.self.bytes.now _ w.in-Ok.ensures w.if-second_first.ensures
    | in_default-via-in_default w ↦ tested_none_of c.args.self.bytes.now _ w.in_default.ensures
  ];
  same = same_handles c.args.self.bytes.now;
}
