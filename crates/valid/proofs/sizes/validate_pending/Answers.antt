use Rattle.std.proofs.Common.{rules, ap}
use Rattle.rules.specs.Items.{init_of}
use Rattle.rules.specs.Once.{met_after, size_once}
use Rattle.items.specs.Item.{shown}
use Rattle.valid.specs.Module.{shown_module}
use Rattle.valid.proofs.Tables.{told_at, tests_at}
use Rattle.valid.proofs.sizes.validate_pending.Goals as goal

pub returns-clause-tested : goal.returns-clause-tested
returns-clause-tested c =
    let m = shown_module c.args.«module» in
    let t = tests_at (size_once m c.args.rest.now.first c.args.ty c.args.place) m.overrides c.args.size (shown c.override_item.result) c.override_item.ensures in
    search rules

pub returns-clause-after : goal.returns-clause-after
returns-clause-after c =
    let m = shown_module c.args.«module» in
    let t = ap (met_after c.args.rest.now.first) (told_at init_of m.overrides c.args.size (shown c.override_item.result) c.override_item.ensures) in
    search rules
