use Rattle.std.proofs.Common.{sym, arith, rules}
use Rattle.std.proofs.lemmas.Bool.{eqb-true, eqb-false}
use Rattle.records.proofs.Cutting.{cut_is}
use Rattle.records.proofs.Slices.{empty_is}
use Rattle.records.proofs.image.RecordsIterator.next.Goals as goal
use Rattle.std.proofs.iter.Next.{firm}

pub returns-then-is_empty : goal.returns-then-is_empty
returns-then-is_empty c =
    let empty = empty_is c.args.self.now.rest.now (eqb-true _ _ (sym c.if-is_empty.ensures)) in
    record { steps = (empty, empty); goes = firm (tt) (λ h. search rules) }

pub returns : goal.returns
returns c =
    let cut = cut_is c.args.self.now.rest.now _ _ (omega (arith, eqb-false _ _ (sym c.if-is_empty.ensures))) c.front_size.ensures c.split_at.ensures.front c.split_at.ensures.back in
    record { steps = cut; goes = firm ((tt, tt, cut.shorter)) (λ h. search rules) }
