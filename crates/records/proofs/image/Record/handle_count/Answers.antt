use Rattle.std.proofs.Common.{arith, inl}
use Rattle.records.proofs.Few.{left_few}
use Rattle.records.proofs.image.Record.handle_count.Goals as goal

pub count-requires-clause-fits : goal.count-requires-clause-fits
count-requires-clause-fits c = inl (omega (arith, left_few c.handles.result))
