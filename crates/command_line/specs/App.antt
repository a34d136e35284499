-- The command line as a simple command of clap.
use Rattle.std.specs.Prelude.{ℕ, Bool, true, List, Some, codes}
use Rattle.clap.specs.Words.{App, Rule, Row, Text, matches_of, new_app, new_rule, takes, with_rule}
use Rattle.clap.specs.Simple.{on_top}
use Rattle.clap.specs.declared.builder.action.ArgAction.TheVariants.{Set, SetTrue, Append}

-- a command without arguments: no argument names the program, and there is no help or version option
abbrev pub bare : App
bare =
    on_top (λ s. record s { no_binary_name = true; disable_help_flag = true; disable_version_flag = true })
    (new_app (codes "synoptic"))

-- an option with a value
abbrev pub value_rule : Text → ℕ → Rule
value_rule id letter = record (new_rule id) { short = Some letter; action = Some Set }

-- an option without a value
abbrev pub flag_rule : Text → ℕ → Rule
flag_rule id letter = record (new_rule id) { short = Some letter; action = Some SetTrue }

-- the command, a required positional argument
abbrev pub command_rule : Rule
command_rule = record (new_rule (codes "COMMAND")) { required = true; action = Some Set }

-- the files, any number of further positional arguments
abbrev pub file_rule : Rule
file_rule = record (new_rule (codes "FILE")) { action = Some Append }

-- COMMAND [-e FILE] [-p] [-m FILE] [-i] [-j] [-n N] [-r] [--] [FILE]...
unfoldable pub app : App
app = with_rule (with_rule (with_rule (with_rule (with_rule (with_rule (with_rule (with_rule (with_rule bare
    command_rule)
    (value_rule (codes "e") 101))
    (flag_rule (codes "p") 112))
    (value_rule (codes "m") 109))
    (flag_rule (codes "i") 105))
    (flag_rule (codes "j") 106))
    (value_rule (codes "n") 110))
    (flag_rule (codes "r") 114))
    file_rule

-- whether clap takes the arguments
abbrev pub is_taken : List Text → Bool
is_taken words = takes app words

-- what clap takes from the arguments
abbrev pub rows_for : List Text → List Row
rows_for words = matches_of app words
