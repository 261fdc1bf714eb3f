use Rattle.std.proofs.Common.{List, length, Result, sym, ap, ◌∙◌}
use Rattle.rules.specs.Module.{Record}
use Rattle.draft.specs.declared.refusal.Refusal.{Refusal}
use Rattle.arena.specs.Memory.{records}
use Rattle.images.proofs.Putting.{put_none}
use Rattle.images.proofs.put.put_all.Goals as goal

pub returns-clause-answers : goal.returns-clause-answers
returns-clause-answers c =
    sym (ap (λ (p : Result Unit Refusal × List Record). p.0) (c.loop-record.invariant.same ∙ put_none (length c.args.bytes.now) (length c.args.slots.now) (records c.loop-record.draft c.loop-record.bytes c.loop-record.slots) c.loop-record.record-iterator.rest.now c.in-None.ensures.steps.0))

pub returns-clause-keeps : goal.returns-clause-keeps
returns-clause-keeps c =
    sym (ap (λ (p : Result Unit Refusal × List Record). p.1) (c.loop-record.invariant.same ∙ put_none (length c.args.bytes.now) (length c.args.slots.now) (records c.loop-record.draft c.loop-record.bytes c.loop-record.slots) c.loop-record.record-iterator.rest.now c.in-None.ensures.steps.0))
