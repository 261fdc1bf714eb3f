use Rattle.std.proofs.Common.{◌≡◌, Some, None, MatchOption, sym, ap, ◌∙◌, subst}
use Rattle.std.specs.List.{slice_get}
use Rattle.std.proofs.lemmas.Option.{slice_get_within}
use Rattle.rules.specs.Module.{Record}
use Rattle.draft.specs.State.{state}
use Rattle.arena.specs.Viewing.{viewed, module_items}
use Rattle.items.specs.Between.{item_at}
use Rattle.items.specs.Item.{shown}
use Rattle.items.proofs.Numbered.{none_placed, found}
use Rattle.items.proofs.lookup.lookup.Goals as goal
use Rattle.items.proofs.lookup.lookup.Goals.{In_ok-place}

-- the record at the place that is found, and the item that it makes
kept : (c : In_ok-place) → (bytes : Record) × (slice_get (viewed c.args.view) c.in_ok-place.place ≡ Some bytes) × (slice_get (module_items c.args.table (state (viewed c.args.view))) c.args.number ≡ Some (item_at (viewed c.args.view) c.in_ok-place.place bytes))
kept c = found c.args.table (viewed c.args.view) c.args.view.stands.accepted c.args.number c.in_ok-place.place (sym c.position.ensures ∙ c.in_ok-place.was {u = tt})

pub item_at-requires : goal.item_at-requires
item_at-requires c = let f = kept c in slice_get_within (viewed c.args.view) c.in_ok-place.place f.0 f.1

pub returns : goal.returns
returns c = let f = kept (goal.at.returns c).In_ok-place in f.2 ∙ ap Some (sym (c.item_at.ensures f.0 f.1))

pub returns-in_err-place : goal.returns-in_err-place
returns-in_err-place c =
    let m = state (viewed c.args.view) in
    let none = none_placed (module_items c.args.table m) c.args.number (sym c.position.ensures ∙ c.in_err-place.was {u = tt}) in
    subst (λ o. MatchOption o (slice_get (module_items c.args.table m) c.args.number ≡ None) (λ i. slice_get (module_items c.args.table m) c.args.number ≡ Some (shown i))) (sym c.from_residual.ensures) none
