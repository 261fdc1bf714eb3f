-- The items of a row.
use Rattle.promises.specs.Rows.{RowItem}
use Rattle.module_row.specs.declared.rows.RowItem.{RowItem as Item}
use Rattle.module_row.specs.declared.rows.RowItem.TheVariants as item

-- the item that is shown
abbrev pub shown_item : Item → RowItem
shown_item (item.Type t) = RowItem.type t
shown_item (item.Override o) = RowItem.override o
shown_item (item.Constant c) = RowItem.constant c
shown_item (item.Expression e) = RowItem.expression e
