-- The error message and the exit status of the process.
use Rattle.std.specs.Prelude.{ℕ, List, [], ◌++◌, codes, decimal, Option}
use Rattle.command_line.specs.Task.{Task}
use Rattle.synoptic_cli.specs.Messages as run
use Rattle.synoptic_cli.specs.Messages.{line_message, task_message}
use Rattle.synoptic_cli.specs.declared.status.Status.{Status}
use Rattle.synoptic_cli.specs.declared.status.Status.TheVariants.{Usage}
use Rattle.events_cli.specs.declared.ending.Ending.{Ending}
use Rattle.events_cli.specs.declared.ending.Ending.TheVariants as endings
use Rattle.events_cli.specs.declared.ending.PlainFault.{PlainFault}
use Rattle.events_cli.specs.declared.ending.PlainFault.TheVariants as faults
use Rattle.events_cli.specs.Words.{task_for}

-- how many lines are undecided
abbrev pub count_message : ℕ → List ℕ
count_message count = codes "synoptic: " ++ decimal count ++ codes " undecided\n"

-- why this log cannot be written in the plain form
abbrev pub plain_message : Option Task → PlainFault → List ℕ
plain_message task (faults.Kind at) = line_message task at (codes "no type of the plain form")
plain_message task (faults.Time at) = line_message task at (codes "time before that of an earlier line of its trace")

-- the message for a refusal: that of `synoptic`, except for the usage
abbrev pub refusal_message : Option Task → Status → List ℕ
refusal_message task Usage =
    codes "usage: synoptic-events [--in-order|--plain|--undecided] [-e FILE] [-p] [-i] [-j] [--] [FILE]...\n"
refusal_message task status = task_message task status

-- the error message for an ending and a task
abbrev pub task_message_of : Option Task → Ending → List ℕ
task_message_of task endings.Done = []
task_message_of task (endings.Undecided count) = count_message count
task_message_of task (endings.NoPlain fault) = plain_message task fault
task_message_of task endings.WriteFault = codes "synoptic: cannot write\n"
task_message_of task (endings.Refused status) = refusal_message task status

-- the same for the arguments
abbrev pub message_of : List (List ℕ) → Ending → List ℕ
message_of words ending = task_message_of (task_for words) ending

-- the exit status of the process
abbrev pub code_of : Ending → ℕ
code_of endings.Done = 0
code_of (endings.Undecided count) = 0
code_of (endings.NoPlain fault) = 4
code_of endings.WriteFault = 7
code_of (endings.Refused status) = run.code_of status
