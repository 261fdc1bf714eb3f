use Rattle.std.proofs.Common.{sym, ◌∙◌}
use Rattle.std.proofs.lemmas.Iterator.Adapters.{option_map_id}
use Rattle.std.proofs.lemmas.Iterator.Consumers.{nth_from_yields_List, YieldsList-from_first}
use Rattle.records.specs.Gathered.{handles_left}
use Rattle.records.proofs.image.Record.tested_handle.Goals as goal

pub returns : goal.returns
returns c = record {
  place =
      sym (option_map_id _) ∙
      nth_from_yields_List c.nth.result c.nth.new.self _ c.nth.ensures.ran (YieldsList-from_first (λ x. x) handles_left _ c.tested_handles.ensures.order);
  same = c.tested_handles.ensures.same;
}
