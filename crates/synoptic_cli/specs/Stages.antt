-- What each stage of a run reads from its inputs, and where reading stops.
use Rattle.std.specs.Prelude.{ℕ, ◌+◌, Bool, List, [], ◌∷◌, length, nat_lt, Option, Some, None, Result, Ok, Err, if◌then◌else◌}
use Rattle.traces.specs.Words.{log_of}
use Rattle.limits.specs.declared.TheConstants.{INITIAL, TERMINAL}
use Rattle.invariants.specs.declared.Kinds.TheVariants.{Three}
use Rattle.invariants.specs.declared.records.Model.{Model}
use Rattle.model_shape.specs.Shapes.{end_of}
use Rattle.model_file.specs.Reading as model_file
use Rattle.model_file.specs.declared.refusal.FileError.{FileError}
use Rattle.model_file.specs.declared.version.Version.{Version}
use Rattle.line_rules.specs.Rules.{Rule}
use Rattle.line_rules.specs.Files.{rules_of}
use Rattle.line_rules.specs.declared.line_rules.RuleError.{RuleError}
use Rattle.log_reader.specs.Reading.{Form, Setting, events_of, first_refusal}
use Rattle.log_reader.specs.Reading as form
use Rattle.log_reader.specs.Inputs.{refused_input}
use Rattle.log_reader.specs.declared.refusal.ReadError.{ReadError}
use Rattle.log_reader.specs.declared.refusal.ReadError.TheVariants as refused
use Rattle.synoptic_cli.specs.Task.{LogFiles, ModelFile, RulesFile, Stage, stage_names}
use Rattle.synoptic_cli.specs.declared.material.Material.{Material}
use Rattle.synoptic_cli.specs.declared.status.Status.{Status}
use Rattle.synoptic_cli.specs.declared.status.Status.TheVariants.{Expressions, Log, Limit, ReadFault, Memory}
use Rattle.synoptic_cli.specs.declared.status.Status.TheVariants as statuses
use Rattle.synoptic_cli.specs.declared.status.LogFault.TheVariants as faults
use Rattle.synoptic_cli.specs.declared.status.LimitKind.TheVariants as limits
use Rattle.synoptic_cli.specs.declared.status.Source.TheVariants as sources

-- what was read so far: the form of the lines, and the material for the command
pub record SoFar : Type 0 where
  pub form : Form
  pub material : Material

-- an empty model: no types and no traces
abbrev pub no_model : Model
no_model =
    record {
      types = [];
      kinds = Three;
      partitions = end_of INITIAL 0 ∷ end_of TERMINAL 0 ∷ [];
      edges = [];
      invariants = [];
      splits = [];
      merges = [];
      blocks = [];
    }

-- before the first stage: the plain form, an empty log and an empty model
abbrev pub at_start : SoFar
at_start = record { form = form.Plain; material = record { log = log_of []; model = no_model } }

-- where reading stops: the status, and how many inputs were opened by then
pub record Stop : Type 0 where
  pub status : Status
  pub count : ℕ

-- a stop after this many inputs
abbrev pub stop_after : ℕ → Status → Stop
stop_after count status = record { status = status; count = count }

-- the rules of the file, or the stop at its refusal
abbrev pub with_rules : SoFar → Result (List Rule) RuleError → Result SoFar Stop
with_rules so_far (Ok rules) = Ok (record { form = form.Rules rules; material = so_far.material })
with_rules so_far (Err e) = Err (stop_after 1 (Expressions e))

-- the stage of the rules over the bytes of its file, if it is there
abbrev pub reads_rules : SoFar → List (List ℕ) → Result SoFar Stop
reads_rules so_far [] = Err (stop_after 0 (ReadFault sources.Expressions))
reads_rules so_far (bytes ∷ more) = with_rules so_far (rules_of bytes)

-- the model of the file, or the stop at its refusal
abbrev pub with_model : SoFar → Result Model FileError → Result SoFar Stop
with_model so_far (Ok model) = Ok (record so_far { material = record so_far.material { model = model } })
with_model so_far (Err e) = Err (stop_after 1 (statuses.ModelFile e))

-- the stage of the model over the bytes of its file, if it is there
abbrev pub reads_model : Version → SoFar → List (List ℕ) → Result SoFar Stop
reads_model version so_far [] = Err (stop_after 0 (ReadFault sources.ModelFile))
reads_model version so_far (bytes ∷ more) = with_model so_far (model_file.reads_as version bytes)

-- the status for a refusal of the log
abbrev pub status_of : ReadError → Status
status_of (refused.ReadFault number) = ReadFault (sources.Log number)
status_of (refused.LineTooLong at) = Log (faults.LineTooLong at)
status_of (refused.Undecided at) = Log (faults.Undecided at)
status_of (refused.BadTime at) = Log (faults.BadTime at)
status_of (refused.TypeTooLong at) = Log (faults.TypeTooLong at)
status_of (refused.TraceTooLong at) = Log (faults.TraceTooLong at)
status_of (refused.TypeLimit at) = Limit limits.Types
status_of (refused.EventLimit at) = Limit limits.Events
status_of refused.InputLimit = Limit limits.Input
status_of refused.Memory = Memory

-- the stop at the input with this number, or at none
abbrev pub stop_at : Option ℕ → Status → Stop
stop_at (Some number) status = stop_after (number + 1) status
stop_at None status = stop_after 0 status

-- how a log is read, given what was read before it
abbrev pub setting_by : SoFar → (ignore join : Bool) → Setting
setting_by so_far ignore join = record { form = so_far.form; ignore = ignore; join = join }

-- the log of `count` files, or the stop: first at its first refusal, then at the first missing file
abbrev pub with_log : SoFar → Setting → ℕ → List (List ℕ) → Option ReadError → Result SoFar Stop
with_log so_far s count contents (Some e) = Err (stop_at (refused_input e contents) (status_of e))
with_log so_far s count contents None =
    if nat_lt (length contents) count
    then Err (stop_after (length contents) (ReadFault (sources.Log (length contents))))
    else Ok (record so_far { material = record so_far.material { log = log_of (events_of s contents) } })

-- the stage of the log over the bytes of its files, up to the first missing one
abbrev pub reads_log : SoFar → Setting → ℕ → List (List ℕ) → Result SoFar Stop
reads_log so_far s count contents = with_log so_far s count contents (first_refusal s contents)

-- a stage over the bytes of its inputs, up to the first missing one, after what was read so far
abbrev pub stage_reads : Stage → SoFar → List (List ℕ) → Result SoFar Stop
stage_reads (RulesFile name) so_far contents = reads_rules so_far contents
stage_reads (ModelFile version name) so_far contents = reads_model version so_far contents
stage_reads (LogFiles names ignore join) so_far contents =
    reads_log so_far (setting_by so_far ignore join) (length names) contents

-- a stage with the bytes of its inputs
abbrev pub Filled : Type 0
Filled = Stage × List (List ℕ)

-- a stop in later stages counts this many more inputs
abbrev pub after : ℕ → Result SoFar Stop → Result SoFar Stop
after count (Ok so_far) = Ok so_far
after count (Err stop) = Err (record { status = stop.status; count = count + stop.count })

-- the next stages after a stage of this many inputs, unless that one stops
abbrev pub and_then : Result SoFar Stop → ℕ → (SoFar → Result SoFar Stop) → Result SoFar Stop
and_then (Ok so_far) count next = after count (next so_far)
and_then (Err stop) count next = Err stop

-- what the stages read, one after another, or the first stop
abbrev pub reads : SoFar → List Filled → Result SoFar Stop
reads so_far [] = Ok so_far
reads so_far (filled ∷ rest) =
    and_then (stage_reads filled.0 so_far filled.1) (length (stage_names filled.0)) (λ next. reads next rest)
