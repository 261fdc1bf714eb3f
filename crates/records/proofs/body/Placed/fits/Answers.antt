use Rattle.std.proofs.Common.{refl, ◌∙◌, rules}
use Rattle.std.proofs.Common.{tests}
use Rattle.std.proofs.lemmas.Iterator.Search.{all_from_yields_List}
use Rattle.std.proofs.lemmas.Iterator.Consumers.{YieldsList-from_first}
use Rattle.records.specs.Left.{words_left}
use Rattle.records.proofs.Fields.{word_fits, field_all}
use Rattle.records.proofs.body.Placed.fits.Goals as goal

pub returns-in-Some : goal.returns-in-Some
returns-in-Some c =
    all_from_yields_List word_fits c.all.new.self _ c.all.result c.all.ensures.ran (YieldsList-from_first (λ x. x) words_left _ refl) (λ x b q k. search (rules, tests)) ∙
    field_all c.args.self.field.now c.args.self.bytes.now _ c.in-Some.ensures
