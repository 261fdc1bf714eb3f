use Rattle.std.proofs.Common.{rules, sym, ap, ◌∙◌}
use Rattle.std.specs.List.{flat_map}
use Rattle.records.specs.Handles.{handles_of}
use Rattle.records.specs.Image.{split}
use Rattle.records.proofs.Cutting.{split_none}
use Rattle.rules.specs.declared.faults.Rule.TheVariants as rule
use Rattle.rules.specs.Fault.{first, all_inside}
use Rattle.body.specs.Errors.{bad_handle}
use Rattle.body.proofs.Gathered.{handles_passed, handles_stopped, split_first}
use Rattle.body.proofs.statements.check_taken.Goals as goal

pub loop-record-preserved : goal.loop-record-preserved
loop-record-preserved c =
    let is = split_first handles_of _ _ _ (c.in-Some.ensures {u = tt}).steps in
    let none = ap (λ l. first (all_inside rule.Inside c.args.sizes c.args.place l)) (sym c.handles.ensures) ∙ sym (c.in_ok-check_handles.ensures {u = tt}) in
    (tt, tt, c.loop-record.invariant.2 ∙ handles_passed rule.Inside c.args.sizes c.args.place (handles_of c.in-Some.«record».bytes.now) (flat_map handles_of (split c.next.new.self.rest.now)) _ is none)

pub returns-in_err-check_handles : goal.returns-in_err-check_handles
returns-in_err-check_handles c =
    let is = split_first handles_of _ _ _ (c.in-Some.ensures {u = tt}).steps in
    let some = ap (λ l. first (all_inside rule.Inside c.args.sizes c.args.place l)) (sym c.handles.ensures) ∙ sym (c.in_err-check_handles.ensures {u = tt}) in
    let stop = c.loop-record.invariant.2 ∙ handles_stopped rule.Inside c.args.sizes c.args.place (handles_of c.in-Some.«record».bytes.now) (flat_map handles_of (split c.next.new.self.rest.now)) _ is (bad_handle c.in_err-check_handles.field-0.0) some in
    search rules

pub returns : goal.returns
returns c = sym (c.loop-record.invariant.2 ∙ ap (λ l. first (all_inside rule.Inside c.args.sizes c.args.place (flat_map handles_of l))) (ap split (c.in-None.ensures {u = tt}).steps.0 ∙ split_none))
