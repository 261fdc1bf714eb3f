use Rattle.std.proofs.Common.{◌<◌, length, subst, sym}
use Rattle.std.specs.List.{AllByRecursion}
use Rattle.ir.specs.declared.handle.Table.TheVariants as table
use Rattle.rules.specs.Sizes.{sizes}
use Rattle.items.specs.Item.{shown}
use Rattle.valid.specs.Module.{shown_module}
use Rattle.promises.proofs.Rows.{own_within}
use Rattle.module_row.proofs.ranks.Ranks.behind_type.Goals as goal

pub type_rank-requires : goal.type_rank-requires
type_rank-requires c =
    let m = shown_module c.args.self.now.«module» in
    (subst (AllByRecursion (λ n. n < length m.types)) (sym (c.in-Some.ensures {u = tt})) (own_within table.Types (sizes m) (shown c.args.value) c.requires)).0
