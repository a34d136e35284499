-- Laws on what arguments ask for.
use Rattle.std.specs.Prelude.{◌≡◌, ◌≢◌, ◌<◌, ◌^◌, ⊤, List, length, Some, None, Result, Ok, Err}
use Rattle.clap.specs.Words.{Text}
use Rattle.command_line.specs.Task.{Task, task_of}
use Rattle.command_line.specs.declared.given.ParseError.{ParseError}
use Rattle.command_line.specs.declared.given.ParseError.TheVariants.{Usage, Memory}

-- no command line asks for a task of 2^32 files or more
abbrev pub FilesAreFew : Type 0
FilesAreFew = (words : List Text) (task : Task) → task_of words ≡ Some task → length task.files < 2 ^ 32

-- an answer to these arguments: the task that they ask for, a refusal if they ask for none, or out of memory
abbrev pub IsAnswer : List Text → Result Task ParseError → Type 0
IsAnswer words (Ok task) = task_of words ≡ Some task
IsAnswer words (Err Usage) = task_of words ≡ None
IsAnswer words (Err Memory) = ⊤

-- two answers to the same arguments are the same, unless one of them is out of memory
abbrev pub AnswersAreOne : Type 0
AnswersAreOne =
    (words : List Text) (a b : Result Task ParseError) → a ≢ Err Memory → b ≢ Err Memory
    → IsAnswer words a → IsAnswer words b → a ≡ b
