-- The table that a word of the command line names.
use Rattle.command.specs.declared.TableName.{TableName}
use Rattle.command.specs.declared.TableName.TheVariants as name
use Rattle.sealed_walk.specs.declared.walking.DraftTable.{DraftTable}
use Rattle.sealed_walk.specs.declared.walking.DraftTable.TheVariants as table

-- the table of a draft that has this name
abbrev pub named_table : TableName → DraftTable
named_table name.Types = table.Types
named_table name.Filters = table.Filters
named_table name.Functions = table.Functions
named_table name.Globals = table.GlobalExpressions
named_table (name.Function n) = table.Function n
named_table (name.EntryPoint n) = table.EntryPoint n
