use Rattle.std.proofs.Common.{sym, ap, ◌∙◌}
use Rattle.ir.specs.Number.{kind_of}
use Rattle.ir.proofs.Numbering.{number_kind, only_number}
use Rattle.ir.proofs.kinds.Kind.number.Goals as goal

pub returns : goal.returns
returns c = record {
  value = c.from.ensures;
  found = ap kind_of c.from.ensures ∙ number_kind c.args.self;
  only = λ n small e. only_number c.args.self n small e ∙ sym c.from.ensures;
}
