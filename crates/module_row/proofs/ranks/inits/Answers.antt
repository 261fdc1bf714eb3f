use Rattle.std.proofs.Common.{◌≡◌, ◌+◌, ◌∷◌, [], ◌++◌, suc, map, length, take, drop, sym, ap, ◌∙◌, arith, length-append, length-drop}
use Rattle.std.specs.Option.{option_to_list}
use Rattle.std.proofs.lemmas.List.{map-append, take_all}
use Rattle.std.proofs.lemmas.Option.{slice_get_within}
use Rattle.rules.specs.Items.{init_of}
use Rattle.items.specs.Item.{shown, items_left}
use Rattle.valid.specs.Module.{shown_module}
use Rattle.valid.proofs.Typed.{here_of}
use Rattle.module_row.proofs.Inits.{mapped_more}
use Rattle.module_row.proofs.ranks.inits.Goals as goal

pub loop-value-init : goal.loop-value-init
loop-value-init c =
    let m = shown_module c.args.«module» in
    let n : length c.new-inits.result.items ≡ 0 = ap length c.new-inits.ensures.items in (
      tt,
      tt,
      ap items_left c.into_iter-value-iterator.ensures.into_iter_gives ∙ c.items-value-items.ensures ∙ ap (λ k. drop k m.overrides) (sym n),
      omega arith,
      ap (map option_to_list) c.new-inits.ensures.items ∙ ap (λ k. map init_of (take k m.overrides)) (sym n),
    )

pub loop-value-preserved : goal.loop-value-preserved
loop-value-preserved c =
    let m = shown_module c.args.«module» in
    let k = length c.loop-value.inits.items in
    let i = shown c.in-Some.value in
    let p = here_of m.overrides k _ _ i c.loop-value.invariant.2 (c.in-Some.ensures {u = tt}).steps in
    let w = slice_get_within m.overrides k i p.0 in
    let items = (c.in_ok-push.ensures {u = tt}).items in
    let size : length c.push.new.self.items ≡ suc k = let e = ap length items ∙ length-append c.loop-value.inits.items (c.own.result ∷ []) in omega arith in
    let later : k + 1 ≡ suc k = omega arith in (
      tt,
      tt,
      p.1 ∙ ap (λ n. drop n m.overrides) (later ∙ sym size),
      omega arith,
      ap (map option_to_list) items
          ∙ map-append option_to_list c.loop-value.inits.items (c.own.result ∷ [])
          ∙ ap (λ l. l ++ option_to_list c.own.result ∷ []) c.loop-value.invariant.4
          ∙ ap (λ x. map init_of (take k m.overrides) ++ x ∷ []) c.own.ensures
          ∙ mapped_more init_of m.overrides k i p.0
          ∙ ap (λ n. map init_of (take n m.overrides)) (later ∙ sym size),
    )

pub returns : goal.returns
returns c =
    let overrides = (shown_module c.args.«module»).overrides in
    let k = length c.loop-value.inits.items in
    let e = ap length (sym c.loop-value.invariant.2 ∙ (c.in-None.ensures {u = tt}).steps.0) in
    let d = length-drop k overrides in
    c.loop-value.invariant.4 ∙ ap (map init_of) (take_all k overrides (omega arith))
