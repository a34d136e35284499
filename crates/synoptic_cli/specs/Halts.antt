-- What the steps of a run leave before it writes.
use Rattle.std.specs.Prelude.{ℕ, ◌≡◌, ◌≢◌, ◌≤◌, ◌⊎◌, List, [], ◌∷◌, ◌+◌, drop, length, IsTrue, Option, Some, None, IsSome, option_map, Result, Ok, Err, ⊤}
use Rattle.outside.specs.Counts.{Rose}
use Rattle.outside.specs.Inputs.{InputState, Lacks}
use Rattle.outside.specs.Reading.{IfTold, OpensNone, OpensNamed}
use Rattle.outside.specs.Turns.{OpensInTurn}
use Rattle.outside.specs.Sinks.{SinkState}
use Rattle.line_rules.specs.Rules.{Rule, AreAlike}
use Rattle.line_rules.specs.Patterns.{PatternsState}
use Rattle.line_rules.specs.Files.{rules_of}
use Rattle.line_rules.specs.Views.{rules_in}
use Rattle.line_rules.specs.declared.line_rules.RuleError.{RuleError}
use Rattle.line_rules.specs.declared.line_rules.RuleError.TheVariants as rule_error
use Rattle.invariants.specs.declared.records.Model.{Model}
use Rattle.model_shape.specs.Shapes.{IsOfVersion1, IsWellShaped}
use Rattle.model_file.specs.Reading as model_file
use Rattle.model_file.specs.Versions.{max_bytes}
use Rattle.model_file.specs.declared.version.Version.{Version}
use Rattle.model_file.specs.declared.version.Version.TheVariants.{One, Two}
use Rattle.model_file.specs.declared.refusal.FileError.{FileError}
use Rattle.model_file.specs.declared.refusal.FileError.TheVariants as file_error
use Rattle.log_reader.specs.Reading.{Form, Setting}
use Rattle.log_reader.specs.Reading as form
use Rattle.log_reader.specs.Inputs.{HasReadCause, Opened, inputs_of}
use Rattle.log_reader.specs.declared.refusal.ReadError.{ReadError}
use Rattle.command_line.specs.Task.{Task, task_of}
use Rattle.command_line.specs.declared.given.ParseError.{ParseError}
use Rattle.command_line.specs.declared.given.ParseError.TheVariants as parse_error
use Rattle.synoptic_cli.specs.declared.answer.Answer.{Answer}
use Rattle.synoptic_cli.specs.declared.answer.NoAnswer.{NoAnswer}
use Rattle.synoptic_cli.specs.declared.answer.NoAnswer.TheVariants as no_answer
use Rattle.synoptic_cli.specs.declared.material.Material.{Material}
use Rattle.synoptic_cli.specs.declared.stages.SoFar as rust
use Rattle.synoptic_cli.specs.declared.status.LimitKind.{LimitKind}
use Rattle.synoptic_cli.specs.declared.status.Status.{Status}
use Rattle.synoptic_cli.specs.declared.status.Status.TheVariants.{Done, NoCheck, NoReplay, Usage, Expressions, ReadFault, Memory, ModelFile}
use Rattle.synoptic_cli.specs.declared.status.Source.TheVariants as sources
use Rattle.synoptic_cli.specs.declared.model_stage.ModelHalt.{ModelHalt}
use Rattle.synoptic_cli.specs.declared.model_stage.ModelHalt.TheVariants as halts
use Rattle.synoptic_cli.specs.Task.{input_count, input_names, rules_name, Stage, stages_of, version_of}
use Rattle.synoptic_cli.specs.Stages.{SoFar, at_start, reads}
use Rattle.synoptic_cli.specs.Endings.{IsTold, OpensAll, SomeBytes, ReadAll}
use Rattle.synoptic_cli.specs.Causes.{HasCause, world}

-- the status for a refusal of the rules file; out of memory is no fault of the file
abbrev pub rules_answer : RuleError → Status
rules_answer rule_error.Memory = Memory
rules_answer e = Expressions e

-- a status that a rules file can cause
abbrev pub IsOfRules : Status → Type 0
IsOfRules (Expressions e) = ⊤
IsOfRules (ReadFault source) = ⊤
IsOfRules Memory = ⊤
IsOfRules status = ⊥

-- the status if the arguments give no task
abbrev pub status_without_task : ParseError → Status
status_without_task parse_error.Usage = Usage
status_without_task parse_error.Memory = Memory

-- a run of this task that ends here, with nothing written, has a cause for this status
abbrev pub Ends : Status → Task → (old new : InputState) (before after : PatternsState) → Type 0
Ends status task old new before after =
    (words : List (List ℕ)) (out : SinkState) → task_of words ≡ Some task
    → HasCause status words (world old before out) (world new after out)

-- the same for each task that reads its lines by the rules of the named file
abbrev pub EndsByRules : Status → List ℕ → (old new : InputState) (before after : PatternsState) → Type 0
EndsByRules status name old new before after =
    (task : Task) → rules_name task.form ≡ Some name → Ends status task old new before after

-- the named file was read to its end, and its rules are equivalent to these
pub record ReadsRules (old new : InputState) (name : List ℕ) (rules : List Rule) : Type 0 where
  pub bytes : List ℕ
  pub told : IsTold old.files name bytes
  pub plain : List Rule
  pub read : rules_of bytes ≡ Ok plain
  pub alike : AreAlike rules plain
  pub opened : ReadAll 1 old new
  pub turn : OpensInTurn (name ∷ []) old new

-- a model that a file of this version can contain: it is well shaped, and a version 1 file has a model of that version
abbrev pub FitsVersion : Version → Model → Type 0
FitsVersion One model = IsWellShaped model × IsOfVersion1 model
FitsVersion Two model = IsWellShaped model

-- the named file of this version was read to its end, and this is its model
pub record ReadsModel (version : Version) (old new : InputState) (name : List ℕ) (model : Model) : Type 0 where
  pub bytes : List ℕ
  pub told : IsTold old.files name bytes
  pub read : model_file.reads_as version bytes ≡ Ok model
  pub shaped : FitsVersion version model
  pub opened : ReadAll 1 old new
  pub turn : OpensInTurn (name ∷ []) old new

-- the named file is refused so by this version, after it was read to its end or to one byte past the limit
pub record RefusesFile (version : Version) (old new : InputState) (name : List ℕ) (e : FileError) : Type 0 where
  pub bytes : List ℕ
  pub told : IsTold old.files name bytes
  pub read : model_file.reads_as version bytes ≡ Err e
  pub not_memory : e ≢ file_error.Memory
  pub opened : Opened 1 old new
  pub rest : IfTold old.files name (λ content. new.rest ≡ Some (drop (max_bytes version + 1) content))

-- why the named file gives no model of this version
abbrev pub ModelHalts : Version → (old new : InputState) → List ℕ → ModelHalt → Type 0
ModelHalts version old new name halts.Missing = Lacks old.files name × OpensNone old new × (new.faults ≡ old.faults)
ModelHalts version old new name halts.Fault =
    Rose old.faults new.faults × IsTrue (old.may_fail name)
    × (OpensNone old new ⊎ OpensNamed old new name (max_bytes version))
ModelHalts version old new name (halts.Refused e) = RefusesFile version old new name e
ModelHalts version old new name halts.Memory = OpensNamed old new name (max_bytes version)

-- why the refused file gives no model; out of memory is no fault of the file
abbrev pub halt_of : FileError → ModelHalt
halt_of file_error.Memory = halts.Memory
halt_of e = halts.Refused e

-- the status if the model's file gives no model
abbrev pub halt_status : ModelHalt → Status
halt_status halts.Missing = ReadFault sources.ModelFile
halt_status halts.Fault = ReadFault sources.ModelFile
halt_status (halts.Refused e) = ModelFile e
halt_status halts.Memory = Memory

-- how the lines of a log are read: by the rules that were read, or else in the plain form
abbrev pub form_with : Option (List Rule) → Form
form_with None = form.Plain
form_with (Some rules) = form.Rules rules

-- both forms are plain, or their rules are equivalent
abbrev pub AreAlikeForms : Form → Form → Type 0
AreAlikeForms form.Plain form.Plain = ⊤
AreAlikeForms (form.Rules rules) (form.Rules others) = AreAlike rules others
AreAlikeForms f g = ⊥

-- the form that the program's value gives
abbrev pub held_form : rust.SoFar → Form
held_form held = form_with (option_map rules_in held.rules)

-- how a task's log is read, if its lines have this form
abbrev pub setting_of : Task → Form → Setting
setting_of task f = record { form = f; ignore = task.ignore; join = task.join }

-- the task reads a log, and its reading ends with this refusal for a cause
pub record LogHalts (task : Task) (f : Form) (old new : InputState) (e : ReadError) : Type 0 where
  pub reads : IsSome task.form
  pub cause : HasReadCause (setting_of task f) (inputs_of task.files) old new e
  pub opens : new.opens ≤ old.opens + length (inputs_of task.files)

-- the program's value is what was read so far, with equivalent rules, and its model fits this version
pub record IsHeld (version : Version) (held : rust.SoFar) (so_far : SoFar) : Type 0 where
  pub form : AreAlikeForms (held_form held) so_far.form
  pub material : so_far.material ≡ held.material
  pub shaped : FitsVersion version held.material.model

-- the inputs of the stages were read, and turn what was read before into what is read now
pub record HasRead (stages : List Stage) (old new : InputState) (before now : SoFar) : Type 0 where
  pub bytes : SomeBytes old.files stages (λ filled. reads before filled ≡ Ok now)
  pub inputs : ReadAll (input_count stages) old new
  pub turn : OpensAll (input_names stages) old new

-- the stages were read after the program's old value and give its new one, for models of this version
abbrev pub Reads : Version → List Stage → rust.SoFar → (old new : InputState) → rust.SoFar → Type 0
Reads version stages before old new now =
    (so_far : SoFar) → IsHeld version before so_far
    → (next : SoFar) × IsHeld version now next × HasRead stages old new so_far next

-- the task's inputs were read, and give the command this material, with a model of the version that it reads
pub record ReadsTask (task : Task) (old new : InputState) (material : Material) : Type 0 where
  pub so_far : SoFar
  pub value : so_far.material ≡ material
  pub shaped : FitsVersion (version_of task.command) material.model
  pub read : HasRead (stages_of task) old new at_start so_far

-- a status that comes with an answer
abbrev pub IsVerdict : Status → Type 0
IsVerdict Done = ⊤
IsVerdict (NoCheck part) = ⊤
IsVerdict (NoReplay part) = ⊤
IsVerdict status = ⊥

-- what a command gives is its answer, with a verdict's status, or its limit; nothing is stated if memory ran out
abbrev pub Gives : (Result Answer LimitKind → Type 0) → Result Answer NoAnswer → Type 0
Gives ToAnswer (Ok a) = ToAnswer (Ok a) × IsVerdict a.status
Gives ToAnswer (Err (no_answer.Limit kind)) = ToAnswer (Err kind)
Gives ToAnswer (Err no_answer.Memory) = ⊤
