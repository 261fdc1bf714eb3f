use Rattle.std.proofs.Common.{Some, None, ap, ◌∙◌}
use Rattle.std.specs.Option.{option_map}
use Rattle.arena.specs.Viewing.{viewed}
use Rattle.items.specs.Item.{shown, shown_body, items_left}
use Rattle.tables.proofs.Going.{skipped, none_at, some_at}
use Rattle.sealed_walk.proofs.Found.{opened_is}
use Rattle.sealed_walk.proofs.walking.numbered_body.Goals as goal

pub returns-in_err-opener : goal.returns-in_err-opener
returns-in_err-opener c =
    let from = c.between-openers.result in
    let none = none_at (items_left from) c.args.number (skipped shown items_left from c.nth.new.self c.args.number None (c.in_err-opener.ensures {u = tt}).ran) in
    ap (option_map shown_body) c.from_residual.ensures ∙ opened_is (viewed c.args.view) c.args.table c.args.number c.kept.result (items_left from) c.between-openers.ensures c.kept.ensures None none

pub returns : goal.returns
returns c =
    let from = c.between-openers.result in
    let i = c.in_ok-opener.opener in
    let there = some_at (items_left from) (items_left c.nth.new.self) c.args.number (shown i) (skipped shown items_left from c.nth.new.self c.args.number (Some i) (c.in_ok-opener.ensures {u = tt}).ran) in
    ap Some c.of.ensures ∙ opened_is (viewed c.args.view) c.args.table c.args.number c.kept.result (items_left from) c.between-openers.ensures c.kept.ensures (Some (shown i)) there
