use Rattle.std.proofs.Common.{map, sym, ap, ◌∙◌, max}
use Rattle.rules.specs.Items.{type_of, init_of}
use Rattle.items.specs.Item.{shown}
use Rattle.promises.specs.Rows.{above, type_rank, expression_rank}
use Rattle.valid.specs.Module.{shown_module}
use Rattle.module_row.proofs.Rooms.{above_append}
use Rattle.module_row.proofs.ranks.Ranks.value_rank.Goals as goal

pub returns : goal.returns
returns c =
    let m = shown_module c.args.self.now.«module» in
    let v = shown c.args.value in
    c.max.ensures
    ∙ ap (λ n. max n c.behind_init.result) c.behind_type.ensures
    ∙ ap (max (above (map (type_rank m) (type_of v)))) c.behind_init.ensures
    ∙ sym (above_append (map (type_rank m) (type_of v)) (map (expression_rank m) (init_of v)))
