use Rattle.std.proofs.Common.{rules}
use Rattle.rules.specs.Check.{statement_tests}
use Rattle.rules.proofs.Firsts.{item_first}
use Rattle.items.specs.Item.{shown}
use Rattle.body.proofs.statements.next_statement.Goals as goal

pub returns-in_err-check_statement-clause-tested : goal.returns-in_err-check_statement-clause-tested
returns-in_err-check_statement-clause-tested c =
    let p = item_first (statement_tests c.args.sizes) (shown c.in-Some.statement) _ _ (c.in-Some.ensures {u = tt}).steps in
    search rules

pub returns-clause-tested : goal.returns-clause-tested
returns-clause-tested c =
    let p = item_first (statement_tests c.args.sizes) (shown c.in-Some.statement) _ _ (c.in-Some.ensures {u = tt}).steps in
    search rules
