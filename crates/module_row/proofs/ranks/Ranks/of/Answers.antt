use Rattle.std.proofs.Common.{sym, ap, ◌∙◌, subst}
use Rattle.std.proofs.lemmas.Option.{MatchOption-at_some}
use Rattle.rules.specs.Sizes.{sizes}
use Rattle.items.specs.Whole.{module_of}
use Rattle.promises.specs.Inside.{ItemsInside}
use Rattle.seal.specs.Sealed.{sealed_records}
use Rattle.seal.proofs.Sealing.{built_is}
use Rattle.module_row.proofs.ranks.Ranks.of.Goals as goal

pub rooms-requires : goal.rooms-requires
rooms-requires c =
    let f = MatchOption-at_some _ _ c.unwrap-module.result c.unwrap-module.ensures c.of.ensures in
    let same = f.1 ∙ ap module_of c.view.ensures ∙ built_is (sealed_records c.args.sealed.now) c.requires.stands.accepted c.requires.accepted in
    subst (λ m. ItemsInside (sizes m) m.types) (sym same) c.requires.promises.inside.types

pub returns : goal.returns
returns c =
    let f = MatchOption-at_some _ _ c.unwrap-module.result c.unwrap-module.ensures c.of.ensures in
    f.1 ∙ ap module_of c.view.ensures ∙ built_is (sealed_records c.args.sealed.now) c.requires.stands.accepted c.requires.accepted
