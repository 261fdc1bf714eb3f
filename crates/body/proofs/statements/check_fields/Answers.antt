use Rattle.std.proofs.Common.{rules, ◌+◌, get_or, drop, sym, ap, ◌∙◌}
use Rattle.std.specs.List.{flat_map}
use Rattle.records.specs.Handles.{field_of}
use Rattle.rules.specs.declared.faults.Rule.TheVariants as rule
use Rattle.rules.specs.Fault.{first, all_inside}
use Rattle.body.specs.Errors.{bad_handle}
use Rattle.body.proofs.Gathered.{handles_passed, handles_stopped, fields_first}
use Rattle.body.proofs.statements.check_fields.Goals as goal

pub loop-field-preserved : goal.loop-field-preserved
loop-field-preserved c =
    let f = field_of c.args.«record».bytes.now in
    let n = c.loop-field.field-index in
    let is = fields_first f c.args.fields.now n c.loop-field-test.true in
    let none = ap (λ l. first (all_inside rule.Inside c.args.sizes c.args.place l)) (sym c.field_handles.ensures) ∙ sym (c.in_ok-check_handles.ensures {u = tt}) in
    c.loop-field.invariant ∙ handles_passed rule.Inside c.args.sizes c.args.place (f (get_or c.args.fields.now n 0)) (flat_map f (drop (n + 1) c.args.fields.now)) _ is none

pub returns-in_err-check_handles : goal.returns-in_err-check_handles
returns-in_err-check_handles c =
    let f = field_of c.args.«record».bytes.now in
    let n = c.loop-field.field-index in
    let is = fields_first f c.args.fields.now n c.loop-field-test.true in
    let some = ap (λ l. first (all_inside rule.Inside c.args.sizes c.args.place l)) (sym c.field_handles.ensures) ∙ sym (c.in_err-check_handles.ensures {u = tt}) in
    let stop = c.loop-field.invariant ∙ handles_stopped rule.Inside c.args.sizes c.args.place (f (get_or c.args.fields.now n 0)) (flat_map f (drop (n + 1) c.args.fields.now)) _ is (bad_handle c.in_err-check_handles.field-0.0) some in
    search rules
