use Rattle.std.proofs.Common.{◌≡◌, length, ap, ◌∙◌}
use Rattle.std.proofs.lemmas.List.{length-map}
use Rattle.rules.specs.Sizes.{sizes as sizes_of}
use Rattle.draft.specs.State.{state, functions_now}
use Rattle.arena.specs.Viewing.{viewed}
use Rattle.items.proofs.Whole.{module_is}
use Rattle.valid.proofs.module.sizes.Goals as goal

pub returns : goal.returns
returns c =
    let v = c.args.view in
    let s = state (viewed v) in
    let functions : c.count-6.result ≡ length s.built.functions = c.count-6.ensures ∙ length-map _ _ ∙ ap (λ o. length (functions_now o s.built s.body)) c.requires in
    let m = ap sizes_of (module_is (viewed v) v.stands.accepted c.requires) in
    cc
