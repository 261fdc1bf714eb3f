use Rattle.std.proofs.Common.{min, ap, ◌∙◌}
use Rattle.arena.specs.Viewing.{viewed}
use Rattle.items.specs.Between.{items_between}
use Rattle.items.proofs.Between.{between_all}
use Rattle.items.proofs.items.Items.between.Goals as goal

pub returns : goal.returns
returns c = ap (items_between c.args.section (viewed c.args.view) c.args.place) (c.min.ensures ∙ ap (min c.args.end) c.kept.ensures) ∙ between_all c.args.section (viewed c.args.view) c.args.place c.args.end
