-- The table of the commands.
use Rattle.std.specs.Prelude.{◌^◌, Bool, true, false, ◌&&◌, ◌||◌, not, List, length, nat_lt, Option, Some, None, codes, is_some, if◌then◌else◌}
use Rattle.std.specs.Option.{option_map_or}
use Rattle.std.specs.List.{list_all}
use Rattle.std.specs.Str.{bytes_eq}
use Rattle.clap.specs.Words.{Text}
use Rattle.clap.specs.Walk.{is_empty}
use Rattle.command_line.specs.Given.{Use}
use Rattle.command_line.specs.Numbers.{number_of}
use Rattle.command_line.specs.declared.table.Command.{Command}
use Rattle.command_line.specs.declared.table.Command.TheVariants as commands
use Rattle.command_line.specs.declared.table.Want.{Want}
use Rattle.command_line.specs.declared.table.Want.TheVariants.{Needs, May, Never}
use Rattle.command_line.specs.declared.table.FormWant.{FormWant}
use Rattle.command_line.specs.declared.table.FormWant.TheVariants as wants_form
use Rattle.command_line.specs.declared.table.Row.{Row}

-- a command that reads a log and takes nothing else
abbrev pub log_row : Command → Row
log_row command =
    record {
      command = command;
      form = wants_form.One;
      flags = May;
      files = May;
      model = Never;
      number = Never;
      interrupted = Never;
    }

-- a command that reads a log and also takes -r
abbrev pub kinds_row : Command → Row
kinds_row command = record (log_row command) { interrupted = May }

-- a command that reads a log and a model's file, and takes nothing else
abbrev pub log_and_model_row : Command → Row
log_and_model_row command =
    record {
      command = command;
      form = wants_form.One;
      flags = May;
      files = May;
      model = Needs;
      number = Never;
      interrupted = Never;
    }

-- a command that reads a model's file and takes nothing else
abbrev pub model_row : Command → Row
model_row command =
    record {
      command = command;
      form = wants_form.Never;
      flags = Never;
      files = Never;
      model = Needs;
      number = Never;
      interrupted = Never;
    }

-- a command that takes a number and nothing else
abbrev pub number_row : Command → Row
number_row command =
    record {
      command = command;
      form = wants_form.Never;
      flags = Never;
      files = Never;
      model = Never;
      number = Needs;
      interrupted = Never;
    }

-- the row of `graph`; with a model's file it is a command of its own
abbrev pub graph_row : Bool → Row
graph_row true = model_row commands.GraphOfModel
graph_row false = log_row commands.Graph

-- the row of a command's name, depending on whether a model's file is given
abbrev pub row_of : Text → Bool → Option Row
row_of text has_model =
    if bytes_eq text (codes "invariants") then Some (kinds_row commands.Invariants)
    else if bytes_eq text (codes "graph") then Some (graph_row has_model)
    else if bytes_eq text (codes "infer") then Some (kinds_row commands.Infer)
    else if bytes_eq text (codes "check") then Some (log_and_model_row commands.Check)
    else if bytes_eq text (codes "replay") then Some (log_and_model_row commands.Replay)
    else if bytes_eq text (codes "paths") then Some (kinds_row commands.Paths)
    else if bytes_eq text (codes "bench") then Some (number_row commands.Bench)
    else if bytes_eq text (codes "migrate") then Some (model_row commands.Migrate)
    else None

-- the argument is given or missing as the row wants it
abbrev pub fits : Want → Bool → Bool
fits Needs is_given = is_given
fits May is_given = true
fits Never is_given = not is_given

-- -e and -p are given as the row wants them
abbrev pub fits_form : FormWant → Use → Bool
fits_form wants_form.One u = if u.plain then not (is_some u.rules) else is_some u.rules
fits_form wants_form.Rules u = is_some u.rules && not u.plain
fits_form wants_form.Never u = not (is_some u.rules) && not u.plain

-- whether -m is given
abbrev pub has_model : Use → Bool
has_model u = is_some u.model

-- all arguments are given as the row wants them
abbrev pub passes : Row → Use → Bool
passes row u =
    fits_form row.form u && fits row.flags (u.ignore || u.join) && fits row.files (nat_lt 0 (length u.files))
    && fits row.model (has_model u) && fits row.interrupted u.interrupted && fits row.number (is_some u.number)

-- the text is not empty
abbrev pub is_word : Text → Bool
is_word text = not (is_empty text)

-- no text is empty
abbrev pub are_words : List Text → Bool
are_words texts = list_all is_word texts

-- the text, if any, is not empty
abbrev pub option_is_word : Option Text → Bool
option_is_word text = option_map_or is_word text true

-- the text, if any, gives a number
abbrev pub option_is_number : Option Text → Bool
option_is_number text = option_map_or (λ t. is_some (number_of t)) text true

-- the files are not too many for a log
abbrev pub are_few : List Text → Bool
are_few files = nat_lt (length files) (2 ^ 32)

-- no name is empty, there are not too many files, and the number, if any, is valid
abbrev pub is_sound : Use → Bool
is_sound u =
    option_is_word u.rules && option_is_word u.model && are_words u.files && are_few u.files && option_is_number u.number
