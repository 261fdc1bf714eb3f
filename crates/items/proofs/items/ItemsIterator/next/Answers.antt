use Rattle.std.proofs.Common.{rules, ◌+◌, ◌∷◌, length, sym, ap, ◌∙◌, arith}
use Rattle.arena.specs.Viewing.{viewed}
use Rattle.items.specs.Between.{items_between}
use Rattle.items.proofs.Between.{hit, miss, none_between}
use Rattle.items.proofs.items.ItemsIterator.next.Goals as goal

pub overflow_add-self : goal.overflow_add-self
overflow_add-self c = let w = c.loop-self.self.fits in let t = c.loop-self-test.true in search rules

pub returns-then-has-clause-steps : goal.returns-then-has-clause-steps
returns-then-has-clause-steps c =
    let m = viewed c.loop-self.self.view in
    let i = c.loop-self.self in
    let bytes = c.entry_at-entry.result.«record».bytes.now in
    let h = hit i.section m i.view.stands.accepted i.place i.end bytes c.entry_at-entry.ensures.has c.loop-self-test.true i.within c.entry_at-entry.result.slot c.entry_at-entry.ensures (sym c.has.ensures ∙ c.if-has.true) in
    sym c.loop-self.invariant ∙ h ∙ ap (λ x. x ∷ items_between i.section m (i.place + 1) i.end) (sym (c.item_at.ensures bytes c.entry_at-entry.ensures.has))

pub returns-then-has-clause-goes : goal.returns-then-has-clause-goes
returns-then-has-clause-goes c = let s = ap length (returns-then-has-clause-steps c) in record { on = λ _. (tt, tt, omega arith); keeps = tt; rests = λ _. tt }

pub loop-self-preserved : goal.loop-self-preserved
loop-self-preserved c =
    let m = viewed c.loop-self.self.view in
    let i = c.loop-self.self in
    let h = miss i.section m i.view.stands.accepted i.place i.end c.entry_at-entry.result.«record».bytes.now c.entry_at-entry.ensures.has c.loop-self-test.true i.within c.entry_at-entry.result.slot c.entry_at-entry.ensures (sym c.has.ensures ∙ c.if-has.false) in
    sym h ∙ c.loop-self.invariant

pub returns-clause-steps : goal.returns-clause-steps
returns-clause-steps c =
    let n = none_between c.loop-self.self.section (viewed c.loop-self.self.view) c.loop-self.self.place c.loop-self.self.end c.loop-self-test.false in
    (sym c.loop-self.invariant ∙ n, n)
