use Rattle.std.proofs.Common.{rules}
use Rattle.rules.specs.Check.{value_tests}
use Rattle.items.specs.Item.{shown}
use Rattle.valid.specs.Module.{shown_module}
use Rattle.valid.proofs.Tables.{tests_at}
use Rattle.valid.proofs.constants.check_constant.Goals as goal

pub returns-in_err-check_value : goal.returns-in_err-check_value
returns-in_err-check_value c =
    let t = tests_at (value_tests c.args.number c.args.place) (shown_module c.args.module).constants c.args.constant (shown c.constant_item.result) c.constant_item.ensures in
    search rules

pub returns : goal.returns
returns c =
    let t = tests_at (value_tests c.args.number c.args.place) (shown_module c.args.module).constants c.args.constant (shown c.constant_item.result) c.constant_item.ensures in
    search rules
