-- The task that the arguments ask for.
use Rattle.std.specs.Prelude.{ℕ, ◌≡◌, ◌≤◌, Bool, true, false, ◌&&◌, List, Option, Some, None, option_and_then, option_map, map, if◌then◌else◌}
use Rattle.std.specs.Option.{IsSomeAnd}
use Rattle.clap.specs.Words.{Text}
use Rattle.limits.specs.declared.TheConstants.{MAX_SESSIONS}
use Rattle.command_line.specs.App.{is_taken, rows_for}
use Rattle.command_line.specs.Given.{Use, use_of}
use Rattle.command_line.specs.Numbers.{number_of}
use Rattle.command_line.specs.Table.{has_model, is_sound, passes, row_of}
use Rattle.command_line.specs.declared.table.Command.{Command}
use Rattle.command_line.specs.declared.table.Command.TheVariants as commands
use Rattle.command_line.specs.declared.table.Row.{Row}
use Rattle.command_line.specs.declared.task.LineForm as rust_form
use Rattle.command_line.specs.declared.task.LineForm.TheVariants as forms
use Rattle.command_line.specs.declared.task.Task as rust

-- how the lines of a log are read: in the plain form, or by the rules of a file
pub data LineForm : Type 0 where
  Plain : LineForm
  Rules : (name : Text) → LineForm

-- the command, how lines are read, the model's file, -i, -j, the number, -r, and the files
pub record Task : Type 0 where
  pub command : Command
  pub form : Option LineForm
  pub model : Option Text
  pub ignore : Bool
  pub join : Bool
  pub number : Option ℕ
  pub interrupted : Bool
  pub files : List Text

-- how lines are read: plainly if -p is given, else by the rules of -e, if given
abbrev pub form_by : Option Text → Bool → Option LineForm
form_by rules true = Some Plain
form_by (Some name) false = Some (Rules name)
form_by None false = None

-- the task of a command and its arguments
abbrev pub asked : Command → Use → Task
asked command u = record {
  command = command;
  form = form_by u.rules u.plain;
  model = u.model;
  ignore = u.ignore;
  join = u.join;
  number = option_and_then number_of u.number;
  interrupted = u.interrupted;
  files = u.files;
}

-- the task, if the row and the tests of the values allow it
abbrev pub allowed : Row → Use → Option Task
allowed row u = if passes row u && is_sound u then Some (asked row.command u) else None

-- the task, if the table has a row that allows it
abbrev pub task_of_use : Use → Option Task
task_of_use u =
    option_and_then (λ row. allowed row u) (option_and_then (λ word. row_of word (has_model u)) u.command)

-- the task of the arguments, if clap takes them and the table allows what they give
abbrev pub task_of : List Text → Option Task
task_of words = if is_taken words then task_of_use (use_of (rows_for words)) else None

-- a number of sessions from 1 to the limit
abbrev pub IsSessions : ℕ → Type 0
IsSessions n = (1 ≤ n) × (n ≤ MAX_SESSIONS)

-- a bench task has a number of sessions
abbrev pub HasSessions : Task → Type 0
HasSessions task = task.command ≡ commands.Bench → IsSomeAnd task.number IsSessions

-- the form as the program's value gives it
abbrev pub form_held : rust_form.LineForm → LineForm
form_held forms.Plain = Plain
form_held (forms.Rules name) = Rules name.now

-- the task as the program's value gives it
abbrev pub task_held : rust.Task → Task
task_held t = record {
  command = t.command;
  form = option_map form_held t.form;
  model = option_map (λ s. s.now) t.model;
  ignore = t.ignore;
  join = t.join;
  number = t.number;
  interrupted = t.interrupted;
  files = map (λ s. s.now) t.files.items;
}
