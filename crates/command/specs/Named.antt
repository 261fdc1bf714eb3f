-- The words behind `walk`: a table and a reading.
use Rattle.std.specs.Prelude.{ℕ, Bool, false, cond, List, length, take, drop, Some, None, Err, codes, Option}
use Rattle.std.specs.Option.{option_map}
use Rattle.std.specs.Str.{bytes_eq}
use Rattle.command.specs.declared.Command.TheVariants.{Walk}
use Rattle.command.specs.declared.TableName.{TableName}
use Rattle.command.specs.declared.TableName.TheVariants.{Types, Filters, Functions, Globals, Function, EntryPoint}
use Rattle.command.specs.declared.ReadingName.{ReadingName}
use Rattle.command.specs.declared.ReadingName.TheVariants.{Depth, Steady}
use Rattle.command.specs.declared.Misuse.TheVariants.{NoTable, NoReading}
use Rattle.command.specs.declared.Options.{Options}
use Rattle.command.specs.declared.Progress.{Progress}
use Rattle.command.specs.declared.Progress.TheVariants.{AwaitingReading, Reading, Settled}
use Rattle.command.specs.Numbers.{short_in}

-- it begins with these bytes
abbrev pub led_by : List ℕ → List ℕ → Bool
led_by p w = bytes_eq (take (length p) w) p

-- a function or an entry point by its number
abbrev pub body_of : List ℕ → Option TableName
body_of w =
    cond (led_by (codes "function:") w) (option_map Function (short_in (drop 9 w)))
    (cond (led_by (codes "entry:") w) (option_map EntryPoint (short_in (drop 6 w)))
    None)

-- the table that a word names
abbrev pub table_of : List ℕ → Option TableName
table_of w =
    cond (bytes_eq w (codes "types")) (Some Types)
    (cond (bytes_eq w (codes "filters")) (Some Filters)
    (cond (bytes_eq w (codes "functions")) (Some Functions)
    (cond (bytes_eq w (codes "globals")) (Some Globals)
    (body_of w))))

-- the reading that a word names
abbrev pub reading_of : List ℕ → Option ReadingName
reading_of w =
    cond (bytes_eq w (codes "depth")) (Some Depth)
    (cond (bytes_eq w (codes "steady")) (Some Steady)
    None)

-- the options before any is given
abbrev pub no_options : Options
no_options = record { plain = false; keep_going = false; bytes = None; slots = None; named = false }

-- the word behind `walk`
abbrev pub table_given : Option TableName → Progress
table_given None = Settled (Err NoTable)
table_given (Some t) = AwaitingReading t

-- the word behind the table
abbrev pub reading_given : TableName → Option ReadingName → Progress
reading_given t None = Settled (Err NoReading)
reading_given t (Some r) = Reading (Walk t r) no_options
