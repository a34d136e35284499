-- The answer for a log, by the mode.
use Rattle.std.specs.Prelude.{ℕ, List, [], length, Option, Some, None}
use Rattle.traces.specs.Words.{Log, log_of}
use Rattle.log_reader.specs.LogLines.{lines_of}
use Rattle.log_reader.specs.Reading.{Setting, events_of}
use Rattle.log_reader.specs.declared.refusal.At.{At}
use Rattle.events.specs.Located.{by_traces, events_located}
use Rattle.events.specs.Undecided.{undecided_lines}
use Rattle.events.specs.declared.located.Located.{Located}
use Rattle.command_line.specs.Task.{Task}
use Rattle.events_cli.specs.declared.answer.Answer.{Answer}
use Rattle.events_cli.specs.declared.ending.Ending.{Ending}
use Rattle.events_cli.specs.declared.ending.Ending.TheVariants as endings
use Rattle.events_cli.specs.declared.ending.PlainFault.{PlainFault}
use Rattle.events_cli.specs.declared.mode.Mode.{Mode}
use Rattle.events_cli.specs.declared.mode.Mode.TheVariants.{InOrder, Plain, Undecided}
use Rattle.events_cli.specs.Plain.{first_fault}
use Rattle.events_cli.specs.Texts.{event_report, plain_log, undecided_report}

-- an answer made of an ending and a text
abbrev pub answer : Ending → List ℕ → Answer
answer ending text = record { ending = ending; text = text }

-- the log in the plain form, or the first event that cannot be in it
abbrev pub plain_answer : Option PlainFault → List ℕ → Answer
plain_answer None text = answer endings.Done text
plain_answer (Some fault) text = answer (endings.NoPlain fault) []

-- the answer for the events of a log
abbrev pub events_answer : Mode → Task → Log → List Located → Answer
events_answer InOrder task log events = answer endings.Done (event_report task log events)
events_answer Plain task log events = plain_answer (first_fault log.types events) (plain_log log.types events)
events_answer mode task log events = answer endings.Done (event_report task log (by_traces events))

-- the answer for the undecided lines
abbrev pub undecided_answer : Task → List (At × List ℕ) → Answer
undecided_answer task lines = answer (endings.Undecided (length lines)) (undecided_report task lines)

-- the answer for the log of these bytes, read with this setting
abbrev pub log_answer : Mode → Task → Setting → List (List ℕ) → Answer
log_answer Undecided task s files = undecided_answer task (undecided_lines s (lines_of s files))
log_answer mode task s files = events_answer mode task (log_of (events_of s files)) (events_located s (lines_of s files))
