use Rattle.std.proofs.Common.{rules, map, ap}
use Rattle.ir.specs.declared.handle.Table.TheVariants as table
use Rattle.rules.specs.declared.faults.Rule.TheVariants as rule
use Rattle.rules.specs.Fault.{first, earlier}
use Rattle.rules.specs.Check.{const_expression_tests, returned}
use Rattle.rules.proofs.Firsts.{first_append}
use Rattle.items.specs.Item.{shown}
use Rattle.valid.specs.Module.{shown_module}
use Rattle.valid.proofs.sizes.check_sized.Goals as goal

pub returns-in_err-returned : goal.returns-in_err-returned
returns-in_err-returned c =
    let p = first_append (const_expression_tests (shown_module c.args.«module») c.args.number (shown c.args.expression)) (map (earlier rule.Earlier table.Types c.args.ty c.args.place) (returned (shown c.args.expression))) in
    search rules

pub returns-in_err-check_dep : goal.returns-in_err-check_dep
returns-in_err-check_dep c =
    let p = first_append (const_expression_tests (shown_module c.args.«module») c.args.number (shown c.args.expression)) (map (earlier rule.Earlier table.Types c.args.ty c.args.place) (returned (shown c.args.expression))) in
    let q = ap (λ l. first (map (earlier rule.Earlier table.Types c.args.ty c.args.place) l)) (c.in_ok-returned.ensures {u = tt}).typed in
    search rules

pub returns-in_ok-check_dep : goal.returns-in_ok-check_dep
returns-in_ok-check_dep c =
    let p = first_append (const_expression_tests (shown_module c.args.«module») c.args.number (shown c.args.expression)) (map (earlier rule.Earlier table.Types c.args.ty c.args.place) (returned (shown c.args.expression))) in
    let q = ap (λ l. first (map (earlier rule.Earlier table.Types c.args.ty c.args.place) l)) (c.in_ok-returned.ensures {u = tt}).typed in
    search rules
