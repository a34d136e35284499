-- What the steps of a run leave before it writes.
use Rattle.std.specs.Prelude.{◌≡◌, ⊤}
use Rattle.outside.specs.Inputs.{InputState}
use Rattle.log_reader.specs.Inputs.{HasReadCause, inputs_of}
use Rattle.log_reader.specs.Reading.{Form}
use Rattle.command_line.specs.Task.{Task}
use Rattle.events.specs.Reading.{ReadsAll}
use Rattle.synoptic_cli.specs.Halts.{AreAlikeForms, HasRead, setting_of}
use Rattle.synoptic_cli.specs.Stages.{SoFar, at_start, status_of}
use Rattle.synoptic_cli.specs.Task.{rules_stages}
use Rattle.synoptic_cli.specs.declared.status.Status.{Status}
use Rattle.synoptic_cli.specs.declared.status.Status.TheVariants.{Expressions, Log, Limit, ReadFault, Memory}
use Rattle.events_cli.specs.declared.answer.Answer.{Answer}
use Rattle.events_cli.specs.declared.answer.Halt.{Halt}
use Rattle.events_cli.specs.declared.answer.Halt.TheVariants as halts
use Rattle.events_cli.specs.declared.ending.Ending.{Ending}
use Rattle.events_cli.specs.declared.ending.Ending.TheVariants as endings
use Rattle.events_cli.specs.declared.mode.Mode.{Mode}
use Rattle.events_cli.specs.Answers.{log_answer}

-- the rules file was read, if lines are read by one, and this form is equivalent to what it gives
pub record ReadsForm (task : Task) (old new : InputState) (form : Form) : Type 0 where
  pub so_far : SoFar
  pub alike : AreAlikeForms form so_far.form
  pub read : HasRead (rules_stages task) old new at_start so_far

-- the log in the task's files was read by this form, and this is the answer for it
abbrev pub ReadsAnswer : Mode → Task → Form → (old new : InputState) → Answer → Type 0
ReadsAnswer mode task form old new a =
    ReadsAll (setting_of task form) (inputs_of task.files) old new
    (λ contents. a ≡ log_answer mode task (setting_of task form) contents)

-- why there is no answer
abbrev pub HasHaltCause : Task → Form → (old new : InputState) → Halt → Type 0
HasHaltCause task form old new (halts.Read e) = HasReadCause (setting_of task form) (inputs_of task.files) old new e
HasHaltCause task form old new halts.Memory = ReadsAll (setting_of task form) (inputs_of task.files) old new (λ contents. ⊤)

-- the status if there is no answer
abbrev pub halt_status : Halt → Status
halt_status (halts.Read e) = status_of e
halt_status halts.Memory = Memory

-- a status for what was read, or for why it could not be read
abbrev pub IsOfReading : Status → Type 0
IsOfReading (Expressions e) = ⊤
IsOfReading (Log fault) = ⊤
IsOfReading (Limit kind) = ⊤
IsOfReading (ReadFault source) = ⊤
IsOfReading Memory = ⊤
IsOfReading status = ⊥

-- an ending that comes with an answer
abbrev pub IsGiven : Ending → Type 0
IsGiven endings.Done = ⊤
IsGiven (endings.Undecided count) = ⊤
IsGiven (endings.NoPlain fault) = ⊤
IsGiven ending = ⊥
