use Rattle.std.proofs.Common.{ap, arith, ◌*◌}
use Rattle.promises.specs.Rows.{expression_rank}
use Rattle.module_row.proofs.ranks.Ranks.expression_rank.Goals as goal

pub returns-clause-rank : goal.returns-clause-rank
unfolding expression_rank
returns-clause-rank c =
    let e = ap (λ s. s.types) c.args.self.now.«module».sized in
    let w = ap (λ n. c.args.expression * n) c.wide.ensures.wide in
    omega arith
