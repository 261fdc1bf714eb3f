use Rattle.std.proofs.Common.{rules, map, ap}
use Rattle.std.specs.List.{flat_map}
use Rattle.ir.specs.declared.handle.Table.TheVariants as table
use Rattle.rules.specs.declared.faults.Rule.TheVariants as rule
use Rattle.rules.specs.Fault.{first, earlier}
use Rattle.rules.specs.Items.{type_of}
use Rattle.items.specs.Item.{shown}
use Rattle.valid.specs.Module.{shown_module}
use Rattle.seal.proofs.Named.{named_first}
use Rattle.seal.proofs.sizes.seal_types_named.Goals as goal

pub returns-in_err-seal_type_named : goal.returns-in_err-seal_type_named
returns-in_err-seal_type_named c =
    let p = named_first c.args.ty c.args.place (shown_module c.args.«module») (shown c.args.expression) in
    let constants = ap (λ l. first (map (earlier rule.SealedEarlier table.Types c.args.ty c.args.place) (flat_map type_of l))) c.constant_of.ensures in
    search rules

pub returns : goal.returns
returns c =
    let p = named_first c.args.ty c.args.place (shown_module c.args.«module») (shown c.args.expression) in
    let constants = ap (λ l. first (map (earlier rule.SealedEarlier table.Types c.args.ty c.args.place) (flat_map type_of l))) c.constant_of.ensures in
    let overrides = ap (λ l. first (map (earlier rule.SealedEarlier table.Types c.args.ty c.args.place) (flat_map type_of l))) c.override_of.ensures in
    search rules
