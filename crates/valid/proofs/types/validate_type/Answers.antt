use Rattle.std.proofs.Common.{rules}
use Rattle.ir.specs.declared.handle.Table.TheVariants as table
use Rattle.items.specs.Item.{shown}
use Rattle.tables.specs.Cursor.{table_nodes}
use Rattle.valid.specs.Module.{shown_module}
use Rattle.valid.proofs.Typed.{told, type_parts}
use Rattle.valid.proofs.types.validate_type.Goals as goal

pub returns-in_err-check_operands-clause-tested : goal.returns-in_err-check_operands-clause-tested
returns-in_err-check_operands-clause-tested c =
    let b = told table.Types (shown_module c.args.«module»).types (table_nodes c.args.types.now) c.requires.table c.args.number (shown c.args.ty) c.requires.here in
    let p = type_parts (shown_module c.args.«module») c.args.rest.now.first c.args.number (shown c.args.ty) in
    search rules

pub returns-in_err-validate_pending-clause-tested : goal.returns-in_err-validate_pending-clause-tested
returns-in_err-validate_pending-clause-tested c =
    let b = told table.Types (shown_module c.args.«module»).types (table_nodes c.args.types.now) c.requires.table c.args.number (shown c.args.ty) c.requires.here in
    let p = type_parts (shown_module c.args.«module») c.args.rest.now.first c.args.number (shown c.args.ty) in
    search rules

pub returns-in_ok-validate_pending-clause-tested : goal.returns-in_ok-validate_pending-clause-tested
returns-in_ok-validate_pending-clause-tested c =
    let b = told table.Types (shown_module c.args.«module»).types (table_nodes c.args.types.now) c.requires.table c.args.number (shown c.args.ty) c.requires.here in
    let p = type_parts (shown_module c.args.«module») c.args.rest.now.first c.args.number (shown c.args.ty) in
    search rules

pub returns-in_default-clause-tested : goal.returns-in_default-clause-tested
returns-in_default-clause-tested c =
    let b = told table.Types (shown_module c.args.«module»).types (table_nodes c.args.types.now) c.requires.table c.args.number (shown c.args.ty) c.requires.here in
    let p = type_parts (shown_module c.args.«module») c.args.rest.now.first c.args.number (shown c.args.ty) in
    search rules
