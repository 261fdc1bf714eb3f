use Rattle.std.proofs.Common.{refl, sym, ap, ◌∙◌}
use Rattle.std.proofs.lemmas.Iterator.Consumers.{nth_from_yields_List, YieldsList-from_first}
use Rattle.std.specs.Option.{option_map}
use Rattle.records.specs.Left.{placed_at, body_left}
use Rattle.records.specs.Gathered.{handles_in}
use Rattle.records.proofs.Fields.{field_is, field_past, field_none}
use Rattle.records.proofs.image.Record.field_handles.Goals as goal

pub returns-in-Some : goal.returns-in-Some
returns-in-Some c =
    let at = nth_from_yields_List c.nth.result c.nth.new.self _ c.nth.ensures.ran (YieldsList-from_first placed_at body_left _ refl) in
    c.of_field.ensures ∙ field_is c.args.self.bytes.now _ c.in-Ok.ensures c.args.field (placed_at c.in-Some.placed) (sym at ∙ ap (option_map placed_at) c.in-Some.is)

pub returns-in-None : goal.returns-in-None
returns-in-None c =
    let at = nth_from_yields_List c.nth.result c.nth.new.self _ c.nth.ensures.ran (YieldsList-from_first placed_at body_left _ refl) in
    c.of.ensures ∙ ap handles_in c.none.ensures ∙ field_past c.args.self.bytes.now _ c.in-Ok.ensures c.args.field (sym at ∙ ap (option_map placed_at) c.in-None.is)

pub returns-in-Err : goal.returns-in-Err
returns-in-Err c = c.of-in-Err.ensures ∙ ap handles_in c.none-in-Err.ensures ∙ field_none c.args.self.bytes.now _ c.args.field c.in-Err.ensures
