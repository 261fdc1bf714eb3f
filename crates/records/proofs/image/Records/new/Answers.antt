use Rattle.std.proofs.Common.{rules}
use Rattle.records.proofs.Cutting.{joined_split}
use Rattle.records.proofs.image.Records.new.Goals as goal

pub returns : goal.returns
returns c = record { rest = search rules; together = joined_split c.args.image.now }
