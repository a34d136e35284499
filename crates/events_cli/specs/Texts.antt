-- The texts of events and of lines.
use Rattle.std.specs.Prelude.{ℕ, ◌==◌, ◌+◌, ◌-◌, ◌/◌, ◌%◌, Bool, not, List, [], ◌++◌, drop, codes, decimal, slice_get, unwrap_or, Some, option_map, if◌then◌else◌, flat_map}
use Rattle.std.specs.List.{list_any}
use Rattle.std.specs.Str.Lossy.{utf8_lossy}
use Rattle.limits.specs.declared.TheConstants.{FIRST_TYPE}
use Rattle.serde_json.specs.Data.{string}
use Rattle.serde_json.specs.Written.{compact_text}
use Rattle.traces.specs.Words.{Log, Trace}
use Rattle.log_reader.specs.declared.refusal.At.{At}
use Rattle.events.specs.declared.located.Located.{Located}
use Rattle.reports.specs.Reports.{name_of}
use Rattle.command_line.specs.Task.{Task}
use Rattle.synoptic_cli.specs.Messages.{shown_source}
use Rattle.synoptic_cli.specs.declared.status.Source.TheVariants as sources

-- a text as a JSON string
abbrev pub quoted : List ℕ → List ℕ
quoted text = compact_text (string text)

-- the place of a line: the name of its file as messages show it, a colon, and the line number
abbrev pub place_text : Task → At → List ℕ
place_text task at = shown_source (Some task) (sources.Log at.file) ++ codes ":" ++ decimal at.line

-- the name of the trace with this number, as a JSON string
abbrev pub trace_name : List Trace → ℕ → List ℕ
trace_name traces k = unwrap_or (option_map (λ trace. quoted trace.key.text) (slice_get traces k)) []

-- a time in the unit of the log, with nine decimal places
abbrev pub time_text : ℕ → List ℕ
time_text time = decimal (time / 1000000000) ++ codes "." ++ drop 1 (decimal (1000000000 + time % 1000000000))

-- the column of the time, if the log has times
abbrev pub time_column : Bool → ℕ → List ℕ
time_column timed time = if timed then codes "\t" ++ time_text time else []

-- whether an event has a time other than 0
abbrev pub have_times : List Located → Bool
have_times events = list_any (λ e. not (e.time == 0)) events

-- the place of an event: the number of its trace, and the place of its line
abbrev pub where_part : Task → Located → List ℕ
where_part task e = decimal e.trace ++ codes "\t" ++ place_text task e.at ++ codes "\t"

-- the content of an event: the names of its trace and of its type, and its time
abbrev pub what_part : List Trace → List (List ℕ) → Bool → Located → List ℕ
what_part traces types timed e =
    trace_name traces e.trace ++ codes "\t" ++ name_of types e.number ++ time_column timed e.time ++ codes "\n"

-- the line for an event
abbrev pub event_line : Task → Log → Bool → Located → List ℕ
event_line task log timed e = where_part task e ++ what_part log.traces log.types timed e

-- one line per event, in order
abbrev pub event_report : Task → Log → List Located → List ℕ
event_report task log events = flat_map (event_line task log (have_times events)) events

-- the text of the type with this number
abbrev pub type_text : List (List ℕ) → ℕ → List ℕ
type_text types number = unwrap_or (slice_get types (number - FIRST_TYPE)) []

-- the line for an event in the plain form: the number of its trace, a space, and its type
abbrev pub plain_line : List (List ℕ) → Located → List ℕ
plain_line types e = decimal e.trace ++ codes " " ++ type_text types e.number ++ codes "\n"

-- one line per event in the plain form, in order
abbrev pub plain_log : List (List ℕ) → List Located → List ℕ
plain_log types events = flat_map (plain_line types) events

-- the line for an undecided line: its place, and its text as a JSON string
abbrev pub undecided_line : Task → At × List ℕ → List ℕ
undecided_line task line = place_text task line.0 ++ codes "\t" ++ quoted (utf8_lossy line.1) ++ codes "\n"

-- one line per undecided line
abbrev pub undecided_report : Task → List (At × List ℕ) → List ℕ
undecided_report task lines = flat_map (undecided_line task) lines
