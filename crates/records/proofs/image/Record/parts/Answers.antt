use Rattle.std.proofs.Common.{sym, rules}
use Rattle.std.proofs.lemmas.Bool.{eqb-true}
use Rattle.records.proofs.Judging.{parts_whole, parts_short}
use Rattle.records.proofs.image.Record.parts.Goals as goal

pub returns : goal.returns
returns c = record {
  parts = parts_whole c.args.self.bytes.now _ (search rules) (sym c.in_ok-kind.ensures) c.if-not-has_length.ensures;
  long = eqb-true _ _ (sym c.if-not-has_length.ensures);
}

pub returns-then-not-has_length : goal.returns-then-not-has_length
returns-then-not-has_length c = record {
  parts = parts_short c.args.self.bytes.now _ (search rules) (sym c.in_ok-kind.ensures) c.if-not-has_length.ensures;
  long = tt;
}
