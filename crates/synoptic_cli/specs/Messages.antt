-- The error message and the exit status of the process.
use Rattle.std.specs.Prelude.{ℕ, ◌≡◌, ◌==◌, ◌⊎◌, List, [], ◌++◌, length, codes, decimal, Option, Some, None, if◌then◌else◌}
use Rattle.std.specs.Io.KnownBytes.{Appends}
use Rattle.outside.specs.Counts.{Rose}
use Rattle.outside.specs.Sinks.{SinkState, AppendsFront}
use Rattle.line_rules.specs.declared.line_rules.RuleError.{RuleError}
use Rattle.line_rules.specs.declared.line_rules.RuleError.TheVariants as rule_error
use Rattle.log_reader.specs.declared.refusal.At.{At}
use Rattle.model_file.specs.declared.refusal.FileError.{FileError}
use Rattle.model_file.specs.declared.refusal.FileError.TheVariants as file_error
use Rattle.model_file.specs.declared.refusal.Field.{Field}
use Rattle.model_file.specs.declared.refusal.Field.TheVariants as fields
use Rattle.command_line.specs.Task.{Task, task_of}
use Rattle.synoptic_cli.specs.declared.status.Status.{Status}
use Rattle.synoptic_cli.specs.declared.status.Status.TheVariants.{Done, NoCheck, NoReplay, Usage, Expressions, Log, Limit, ReadFault, WriteFault, Memory, ModelFile}
use Rattle.synoptic_cli.specs.declared.status.LogFault.{LogFault}
use Rattle.synoptic_cli.specs.declared.status.LogFault.TheVariants as faults
use Rattle.synoptic_cli.specs.declared.status.LimitKind.{LimitKind}
use Rattle.synoptic_cli.specs.declared.status.LimitKind.TheVariants as limits
use Rattle.synoptic_cli.specs.declared.status.Source.{Source}
use Rattle.synoptic_cli.specs.declared.status.Source.TheVariants as sources
use Rattle.synoptic_cli.specs.Task.{source_name}

-- the name of an input as messages show it: as given, or `standard input` if it is empty
abbrev pub shown : Option (List ℕ) → List ℕ
shown None = []
shown (Some name) = if length name == 0 then codes "standard input" else name

-- the name of an input of the task, if there is one
abbrev pub shown_source : Option Task → Source → List ℕ
shown_source None source = []
shown_source (Some task) source = shown (source_name task source)

-- what is wrong with a rules file, and in which line
abbrev pub rule_message : RuleError → List ℕ
rule_message rule_error.TooLong = codes ": too long\n"
rule_message (rule_error.BadLine number) = codes " line " ++ decimal number ++ codes ": bad line\n"
rule_message (rule_error.TooMany number) = codes " line " ++ decimal number ++ codes ": too many rules\n"
rule_message (rule_error.Syntax number) = codes " line " ++ decimal number ++ codes ": bad pattern\n"
rule_message (rule_error.TooLarge number) = codes " line " ++ decimal number ++ codes ": pattern too large\n"
rule_message (rule_error.NoType number) = codes " line " ++ decimal number ++ codes ": no TYPE group\n"
rule_message (rule_error.MixedTime number) = codes " line " ++ decimal number ++ codes ": mixed TIME\n"
rule_message rule_error.NoEvent = codes ": no event rule\n"
rule_message rule_error.Memory = codes ": out of memory\n"

-- the place of a line of a log, and what is wrong with it
abbrev pub line_message : Option Task → At → List ℕ → List ℕ
line_message task at what =
    codes "synoptic: " ++ shown_source task (sources.Log at.file) ++ codes ":" ++ decimal at.line
    ++ codes ": " ++ what ++ codes "\n"

-- why a line of a log is refused
abbrev pub log_message : Option Task → LogFault → List ℕ
log_message task (faults.LineTooLong at) = line_message task at (codes "line too long")
log_message task (faults.Undecided at) = line_message task at (codes "no rule decides")
log_message task (faults.BadTime at) = line_message task at (codes "bad time")
log_message task (faults.TypeTooLong at) = line_message task at (codes "type too long")
log_message task (faults.TraceTooLong at) = line_message task at (codes "trace too long")

-- which quantity exceeds its limit, and the limit
abbrev pub limit_message : LimitKind → List ℕ
limit_message limits.Types = codes "synoptic: limit: types 256\n"
limit_message limits.Events = codes "synoptic: limit: events 1000000\n"
limit_message limits.Input = codes "synoptic: limit: input 268435456\n"
limit_message limits.Partitions = codes "synoptic: limit: partitions 1024\n"
limit_message limits.Paths = codes "synoptic: limit: paths 4000000\n"

-- the part of a model's file that is wrong
abbrev pub field_name : Field → List ℕ
field_name fields.Root = codes "root"
field_name fields.Version = codes "version"
field_name fields.Extra = codes "extra"
field_name fields.Types = codes "types"
field_name fields.Kinds = codes "kinds"
field_name fields.Partitions = codes "partitions"
field_name fields.Edges = codes "edges"
field_name fields.Invariants = codes "invariants"
field_name fields.Merges = codes "merges"
field_name fields.Splits = codes "splits"
field_name fields.Blocks = codes "blocks"

-- what is wrong with a model's file
abbrev pub file_fault : FileError → List ℕ
file_fault file_error.TooLong = codes "too long"
file_fault file_error.NotJson = codes "not JSON"
file_fault (file_error.Shape field) = codes "bad " ++ field_name field
file_fault (file_error.Version number) = codes "version " ++ decimal number
file_fault file_error.Memory = codes "out of memory"

-- the error message for a status and a task
abbrev pub task_message : Option Task → Status → List ℕ
task_message task Done = []
task_message task (NoCheck part) = []
task_message task (NoReplay part) = []
task_message task Usage =
    codes "usage: synoptic infer|check|replay|invariants|graph|paths|bench|migrate "
    ++ codes "[-e FILE] [-p] [-m FILE] [-i] [-j] [-n N] [-r] [--] [FILE]...\n"
task_message task (Expressions e) = codes "synoptic: expressions" ++ rule_message e
task_message task (Log fault) = log_message task fault
task_message task (Limit kind) = limit_message kind
task_message task (ReadFault source) =
    codes "synoptic: cannot read " ++ shown_source task source ++ codes "\n"
task_message task WriteFault = codes "synoptic: cannot write\n"
task_message task Memory = codes "synoptic: out of memory\n"
task_message task (ModelFile e) = codes "synoptic: model file: " ++ file_fault e ++ codes "\n"

-- the same for the arguments
abbrev pub message_of : List (List ℕ) → Status → List ℕ
message_of words status = task_message (task_of words) status

-- the whole text was appended and no fault was counted; or a prefix of it was appended and the fault count rose
abbrev pub Tells : List ℕ → SinkState → SinkState → Type 0
Tells text before after =
    (Appends before.written after.written text × (after.faults ≡ before.faults))
    ⊎ (AppendsFront before text after × Rose before.faults after.faults)

-- the exit status of the process
abbrev pub code_of : Status → ℕ
code_of Done = 0
code_of (NoCheck part) = 1
code_of (NoReplay part) = 1
code_of Usage = 2
code_of (Expressions e) = 3
code_of (Log fault) = 4
code_of (Limit kind) = 5
code_of (ReadFault source) = 6
code_of WriteFault = 7
code_of Memory = 8
code_of (ModelFile e) = 9
