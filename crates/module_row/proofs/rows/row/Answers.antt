use Rattle.std.proofs.Common.{rules, ◌≡◌, map, sym, ap, ◌∙◌, subst}
use Rattle.std.proofs.lemmas.Result.{IfOk-weaker}
use Rattle.std.proofs.lemmas.List.Sorted.{IsNonDecreasingBy-from_sort_by_key}
use Rattle.draft.specs.State.{state}
use Rattle.promises.specs.Rows.{IsModuleRow, row_items}
use Rattle.promises.proofs.Rows.{permuted_row}
use Rattle.seal.specs.Sealed.{sealed_records}
use Rattle.module_row.specs.Rows.{shown_item}
use Rattle.module_row.specs.Ranked.{shown_ranked, with_rank}
use Rattle.module_row.proofs.Sorted.{items_permuted, items_rise}
use Rattle.module_row.proofs.rows.row.Goals as goal

pub returns : goal.returns
returns c =
    let records = sealed_records c.args.sealed.now in
    let m = (state records).built in
    let xs = c.in_ok-ranked.ranked.items in
    let ys = c.sort_by_key.new.self.items in
    let p = c.in_ok-sort_by_key.ensures.permutation in
    let same = c.in_ok-ranks.ensures {u = tt} in
    let e = subst (λ n. map shown_ranked xs ≡ map (with_rank n) (row_items n)) same (c.in_ok-ranked.ensures {u = tt}) in
    let up = IsNonDecreasingBy-from_sort_by_key (λ r. r.rank) ys c.in_ok-sort_by_key.ensures.sorted (λ a r q k. search rules) in
    let row = permuted_row records c.requires.stands.accepted c.requires.accepted (map shown_item (map (λ r. r.item) ys)) (items_permuted m xs ys (row_items m) e p) (items_rise m xs ys (row_items m) e p up) in
    IfOk-weaker c.unranked.result _ _ (λ v q. subst (λ l. IsModuleRow m (map shown_item l)) (sym (q ∙ ap (map (λ r. r.item)) c.as_slice.ensures.value)) row) c.unranked.ensures
