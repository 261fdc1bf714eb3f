use Rattle.std.proofs.Common.{ap, ◌∙◌}
use Rattle.records.specs.Gathered.{handles_in}
use Rattle.records.proofs.Fields.{handles_are, handles_none}
use Rattle.records.proofs.image.Record.handles.Goals as goal

pub returns-in-Ok : goal.returns-in-Ok
returns-in-Ok c = c.of.ensures ∙ handles_are c.args.self.bytes.now c.in-Ok.ensures

pub returns-in-Err : goal.returns-in-Err
returns-in-Err c =
    c.of-in-Err.ensures ∙ ap handles_in c.none.ensures ∙ handles_none c.args.self.bytes.now _ c.in-Err.ensures
