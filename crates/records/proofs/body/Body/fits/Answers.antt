use Rattle.std.proofs.Common.{refl, rules}
use Rattle.std.proofs.Common.{tests}
use Rattle.std.proofs.lemmas.Iterator.Search.{all_from_yields_List}
use Rattle.std.proofs.lemmas.Iterator.Consumers.{YieldsList-from_first}
use Rattle.records.specs.Record.{field_fits}
use Rattle.records.specs.Left.{placed_at, body_left}
use Rattle.records.proofs.body.Body.fits.Goals as goal

pub returns : goal.returns
returns c =
    all_from_yields_List (λ p. field_fits p.0 p.1) c.all.new.self _ c.all.result c.all.ensures.ran (YieldsList-from_first placed_at body_left _ refl) (λ x b q k. search (rules, tests))
