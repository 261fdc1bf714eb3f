-- What the words of a command line mean.
use Rattle.std.specs.Prelude.{ℕ, Bool, true, false, cond, List, [], ◌∷◌, Some, None, Ok, Err, codes, fold, Option, Result, ◌==◌}
use Rattle.std.specs.Str.{bytes_eq}
use Rattle.command.specs.declared.Word.{Word}
use Rattle.command.specs.declared.Word.TheVariants as word
use Rattle.command.specs.declared.Command.{Command}
use Rattle.command.specs.declared.Command.TheVariants.{Report, Check, Seal}
use Rattle.command.specs.declared.Request.{Request}
use Rattle.command.specs.declared.Request.TheVariants.{Read, Help, Version}
use Rattle.command.specs.declared.Misuse.{Misuse}
use Rattle.command.specs.declared.Misuse.TheVariants.{NoCommand, UnknownCommand, UnknownOption, NoNumber, NoTable, NoReading}
use Rattle.command.specs.declared.Options.{Options}
use Rattle.command.specs.declared.Progress.{Progress}
use Rattle.command.specs.declared.Limit.{Limit}
use Rattle.command.specs.declared.Limit.TheVariants as limit
use Rattle.command.specs.declared.Progress.TheVariants.{Empty, AwaitingTable, AwaitingReading, Reading, Awaiting, Settled}
use Rattle.command.specs.Numbers.{number_in}
use Rattle.command.specs.Named.{no_options, table_of, reading_of, table_given, reading_given}

-- it begins with '-'
abbrev pub dashed : List ℕ → Bool
dashed [] = false
dashed (a ∷ w) = a == 45

-- a word behind the command
abbrev pub word_of : List ℕ → Word
word_of w =
    cond (bytes_eq w (codes "--plain")) word.Plain
    (cond (bytes_eq w (codes "--keep-going")) word.KeepGoing
    (cond (bytes_eq w (codes "--bytes")) word.Bytes
    (cond (bytes_eq w (codes "--slots")) word.Slots
    (cond (bytes_eq w (codes "--help")) word.Help
    (cond (bytes_eq w (codes "-h")) word.Help
    (cond (bytes_eq w (codes "--version")) word.Version
    (cond (bytes_eq w (codes "-")) word.StandardInput
    (cond (dashed w) word.Unknown
    word.File))))))))

-- a word behind a command: the first that asks for help or the version, or is unknown, decides
abbrev pub option_of : Word → Command → Options → Progress
option_of word.Plain c o = Reading c (record o { plain = true })
option_of word.KeepGoing c o = Reading c (record o { keep_going = true })
option_of word.Bytes c o = Awaiting limit.Bytes c o
option_of word.Slots c o = Awaiting limit.Slots c o
option_of word.Help c o = Settled (Ok Help)
option_of word.Version c o = Settled (Ok Version)
option_of word.StandardInput c o = Reading c (record o { named = true })
option_of word.File c o = Reading c (record o { named = true })
option_of word.Unknown c o = Settled (Err UnknownOption)

-- the word behind `--bytes` or `--slots`
abbrev pub limit_given : Limit → Option ℕ → Command → Options → Progress
limit_given l None c o = Settled (Err NoNumber)
limit_given limit.Bytes (Some n) c o = Reading c (record o { bytes = Some n })
limit_given limit.Slots (Some n) c o = Reading c (record o { slots = Some n })

-- the first word
abbrev pub command_of : List ℕ → Progress
command_of w =
    cond (bytes_eq w (codes "report")) (Reading Report no_options)
    (cond (bytes_eq w (codes "check")) (Reading Check no_options)
    (cond (bytes_eq w (codes "seal")) (Reading Seal no_options)
    (cond (bytes_eq w (codes "walk")) AwaitingTable
    (cond (bytes_eq w (codes "--help")) (Settled (Ok Help))
    (cond (bytes_eq w (codes "-h")) (Settled (Ok Help))
    (cond (bytes_eq w (codes "--version")) (Settled (Ok Version))
    (Settled (Err UnknownCommand))))))))

-- one word more
abbrev pub next_of : Progress → List ℕ → Progress
next_of Empty w = command_of w
next_of AwaitingTable w = table_given (table_of w)
next_of (AwaitingReading t) w = reading_given t (reading_of w)
next_of (Reading c o) w = option_of (word_of w) c o
next_of (Awaiting l c o) w = limit_given l (number_in w) c o
next_of (Settled r) w = Settled r

-- what words come to where no more follow
abbrev pub finished : Progress → Result Request Misuse
finished Empty = Err NoCommand
finished AwaitingTable = Err NoTable
finished (AwaitingReading t) = Err NoReading
finished (Reading c o) = Ok (Read c o)
finished (Awaiting l c o) = Err NoNumber
finished (Settled r) = r

-- a whole command line, the program's own name aside: its words from left to right
abbrev pub parsed : {A : Type 0} → (A → List ℕ) → List A → Result Request Misuse
parsed text words = finished (fold (λ p w. next_of p (text w)) Empty words)

-- what is wrong, in words
abbrev pub misuse_text : Misuse → List ℕ
misuse_text NoCommand = codes "no command"
misuse_text UnknownCommand = codes "no such command"
misuse_text UnknownOption = codes "no such option"
misuse_text NoNumber = codes "--bytes and --slots take a number"
misuse_text NoTable = codes "walk takes types, filters, functions, globals, function:N or entry:N"
misuse_text NoReading = codes "walk takes depth or steady behind the table"
