use Rattle.std.proofs.Common.{length, ap, ◌∙◌, arith}
use Rattle.promises.specs.Rows.{wide}
use Rattle.valid.specs.Module.{shown_module}
use Rattle.module_row.proofs.Rooms.{rooms_length}
use Rattle.module_row.proofs.ranks.Ranks.wide.Goals as goal

pub returns-clause-wide : goal.returns-clause-wide
unfolding wide
returns-clause-wide c = let e = ap (λ s. s.types) c.args.self.now.«module».sized in omega arith

pub returns-clause-below : goal.returns-clause-below
returns-clause-below c =
    let r = c.args.self.now in
    let e = ap (λ s. s.types) r.«module».sized in
    let l = ap length r.rooms_are ∙ rooms_length (shown_module r.«module») in
    let n = r.rooms.ok.0 in
    let u = r.rooms.ok.1 in
    let s = r.rooms.small in
    omega arith
