-- How a check and a replay judge what was inferred.
use Rattle.std.specs.Prelude.{ℕ, ◌≡◌, false, List, Some, None, Result, Ok}
use Rattle.outside.specs.Inputs.{Files, bytes_of}
use Rattle.invariants.specs.declared.records.Model.{Model}
use Rattle.models.specs.Models.{typed_words, IsModelOf}
use Rattle.models.specs.Laws.{IsTypedLog}
use Rattle.models.specs.Limits.{KeepsLimits}
use Rattle.model_check.specs.declared.verdict.Verdict.TheVariants.{Yes}
use Rattle.model_file.specs.Reading as model_file
use Rattle.replay_check.specs.declared.answer.Replay.TheVariants as outcomes
use Rattle.command_line.specs.Task.{Task}
use Rattle.command_line.specs.declared.table.Command.TheVariants as commands
use Rattle.synoptic_cli.specs.declared.answer.Answer.{Answer}
use Rattle.synoptic_cli.specs.declared.status.Status.{Status}
use Rattle.synoptic_cli.specs.declared.status.Status.TheVariants.{Done}
use Rattle.synoptic_cli.specs.Task.{stages_of}
use Rattle.synoptic_cli.specs.Stages.{SoFar, Stop, at_start, reads}
use Rattle.synoptic_cli.specs.Commands.CheckModel.{answer_of}
use Rattle.synoptic_cli.specs.Commands.ReplayModel as replay_model
use Rattle.synoptic_cli.specs.Endings.{EndsOver, EndsTold, told_stages}

-- the check of the named file against the log of the task; the model's file gives the kinds of invariants
abbrev pub checking : Task → List ℕ → Task
checking task name = record task { command = commands.Check; model = Some name; interrupted = false }

-- if the file is the model of the task's log for the kinds it names, and the words of the log use exactly its types,
-- then its check against that log ends with yes
abbrev pub ModelsAreAccepted : Type 0
ModelsAreAccepted =
    (files : Files) (task : Task) (name bytes : List ℕ) (model : Model) (so_far : SoFar)
    (end : Result Answer Stop)
    → task.model ≡ None → reads at_start (told_stages files (stages_of task)) ≡ Ok so_far
    → IsTypedLog (typed_words model.kinds so_far.material.log)
    → IsModelOf model (typed_words model.kinds so_far.material.log)
    → bytes_of files name ≡ Some bytes → model_file.reads bytes ≡ Ok model
    → EndsOver (checking task name) (told_stages files (stages_of (checking task name))) end
    → end ≡ Ok (answer_of Yes)

-- What inference answers for a log passes its check, whichever kinds the task asks for. If the named file has the text
-- of that answer and the task's own inputs are unchanged, the check ends with yes and the status Done.
abbrev pub InferredAreAccepted : Type 0
InferredAreAccepted =
    (before after : Files) (task : Task) (name : List ℕ) (a : Answer) (status : Status)
    → task.command ≡ commands.Infer → task.model ≡ None
    → told_stages before (stages_of task) ≡ told_stages after (stages_of task)
    → EndsOver task (told_stages before (stages_of task)) (Ok a) → bytes_of after name ≡ Some a.text
    → (told : EndsTold after (checking task name) status)
    → (told.end ≡ Ok (answer_of Yes)) × (status ≡ Done)

-- the replay of the named file against the log of the task; again the model's file gives the kinds
abbrev pub replaying : Task → List ℕ → Task
replaying task name = record task { command = commands.Replay; model = Some name; interrupted = false }

-- if the file is the model of the task's log for the kinds it names and keeps the limits, and the words of the log
-- use exactly its types, then its replay against that log ends with yes
abbrev pub HistoriesAreAccepted : Type 0
HistoriesAreAccepted =
    (files : Files) (task : Task) (name bytes : List ℕ) (model : Model) (so_far : SoFar)
    (end : Result Answer Stop)
    → task.model ≡ None → reads at_start (told_stages files (stages_of task)) ≡ Ok so_far
    → IsTypedLog (typed_words model.kinds so_far.material.log)
    → IsModelOf model (typed_words model.kinds so_far.material.log)
    → KeepsLimits model
    → bytes_of files name ≡ Some bytes → model_file.reads bytes ≡ Ok model
    → EndsOver (replaying task name) (told_stages files (stages_of (replaying task name))) end
    → end ≡ Ok (replay_model.answer_of outcomes.Yes)

-- What inference answers for a log passes its replay, whichever kinds the task asks for. If the named file has the text
-- of that answer and the task's own inputs are unchanged, the replay ends with yes and the status Done.
abbrev pub InferredAreReplayed : Type 0
InferredAreReplayed =
    (before after : Files) (task : Task) (name : List ℕ) (a : Answer) (status : Status)
    → task.command ≡ commands.Infer → task.model ≡ None
    → told_stages before (stages_of task) ≡ told_stages after (stages_of task)
    → EndsOver task (told_stages before (stages_of task)) (Ok a) → bytes_of after name ≡ Some a.text
    → (told : EndsTold after (replaying task name) status)
    → (told.end ≡ Ok (replay_model.answer_of outcomes.Yes)) × (status ≡ Done)
