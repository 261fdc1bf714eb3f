use Rattle.std.proofs.Common.{◌++◌, length, ap, ◌∙◌, arith}
use Rattle.std.specs.List.{flat_map}
use Rattle.ir.specs.declared.handle.Table.TheVariants as table
use Rattle.records.specs.Handles.{handles_of}
use Rattle.rules.specs.Module.{Body}
use Rattle.rules.specs.Kinds.{CallResult, Call}
use Rattle.rules.specs.Items.{numbers}
use Rattle.arena.specs.Viewing.{viewed}
use Rattle.items.specs.Item.{shown}
use Rattle.items.specs.Whole.{body_of}
use Rattle.tables.specs.Tables.{records_of}
use Rattle.tables.specs.Operands.{of_kind_left}
use Rattle.tables.proofs.Calling.{calls_within}
use Rattle.tables.proofs.InAll.{lent}
use Rattle.tables.proofs.operands.Operands.of_calls.Goals as goal

pub returns-clause-gives : goal.returns-clause-gives
returns-clause-gives c =
    let body = body_of (viewed c.args.view) (shown c.args.opener) in
    let results = c.new.ensures ∙ ap (records_of CallResult) (c.items-expressions.ensures ∙ ap (λ (b : Body). b.expressions) c.of-body.ensures) in
    let calls = c.new-2.ensures ∙ ap (records_of Call) (c.items-statements.ensures ∙ ap (λ (b : Body). b.statements) c.of-body.ensures) in
    ap (λ hs. numbers table.Functions (hs ++ flat_map handles_of (of_kind_left c.new.result ++ of_kind_left c.new-2.result))) c.handles.ensures
    ∙ ap (λ rs. numbers table.Functions (flat_map handles_of (rs ++ of_kind_left c.new-2.result))) results
    ∙ ap (λ rs. numbers table.Functions (flat_map handles_of (records_of CallResult body.expressions ++ rs))) calls

pub returns-clause-few : goal.returns-clause-few
returns-clause-few c = let v = c.args.view in omega (arith, lent v, calls_within (viewed v) (shown c.args.opener), ap length (returns-clause-gives c))
