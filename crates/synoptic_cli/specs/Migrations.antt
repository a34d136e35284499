-- How a migration ends, and what a check answers for its output.
use Rattle.std.specs.Prelude.{ℕ, ◌≡◌, ◌↔◌, false, List, [], Some, None, Result, Ok, Err}
use Rattle.outside.specs.Inputs.{Files, bytes_of}
use Rattle.invariants.specs.declared.Kinds.TheVariants.{Three}
use Rattle.invariants.specs.declared.records.Model.{Model}
use Rattle.models.specs.Models.{typed_words}
use Rattle.models.specs.Checks.{IsValid}
use Rattle.model_check.specs.declared.verdict.Verdict.TheVariants.{Yes}
use Rattle.model_file.specs.Tree.{file_text}
use Rattle.model_file.specs.Reading.{reads_version_1}
use Rattle.model_file.specs.declared.refusal.FileError.{FileError}
use Rattle.command_line.specs.Task.{Task}
use Rattle.command_line.specs.declared.table.Command.TheVariants as commands
use Rattle.synoptic_cli.specs.declared.answer.Answer.{Answer}
use Rattle.synoptic_cli.specs.declared.status.Status.TheVariants.{ModelFile}
use Rattle.synoptic_cli.specs.Task.{stages_of}
use Rattle.synoptic_cli.specs.Stages.{SoFar, Stop, at_start, reads, stop_after}
use Rattle.synoptic_cli.specs.Commands.Answered.{done}
use Rattle.synoptic_cli.specs.Commands.CheckModel.{answer_of}
use Rattle.synoptic_cli.specs.Endings.{EndsOver, told_stages}
use Rattle.synoptic_cli.specs.Rechecks.{checking}

-- the migration of the named file
abbrev pub migrating : List ℕ → Task
migrating name =
    record {
      command = commands.Migrate;
      form = None;
      model = Some name;
      ignore = false;
      join = false;
      number = None;
      interrupted = false;
      files = [];
    }

-- how it ends: with the text of the model in version 2, or with the refusal of the file
abbrev pub migrated : Result Model FileError → Result Answer Stop
migrated (Ok model) = Ok (done (file_text model))
migrated (Err e) = Err (stop_after 1 (ModelFile e))

-- if the named file is there, its migration ends so, by what version 1 reads from it
abbrev pub MigrationsEnd : Type 0
MigrationsEnd =
    (files : Files) (name bytes : List ℕ) (end : Result Answer Stop)
    → bytes_of files name ≡ Some bytes
    → EndsOver (migrating name) (told_stages files (stages_of (migrating name))) end
    → end ≡ migrated (reads_version_1 bytes)

-- The output of a migration is as valid for a log as the model that version 1 read, with invariants of three kinds.
-- If the named file has that output, its check against the log of a task ends with yes exactly if that model is valid
-- for the log.
abbrev pub MigratedAreAlike : Type 0
MigratedAreAlike =
    (before after : Files) (former name bytes : List ℕ) (model : Model) (a : Answer) (task : Task)
    (so_far : SoFar) (end : Result Answer Stop)
    → bytes_of before former ≡ Some bytes → reads_version_1 bytes ≡ Ok model
    → EndsOver (migrating former) (told_stages before (stages_of (migrating former))) (Ok a)
    → bytes_of after name ≡ Some a.text
    → task.model ≡ None → reads at_start (told_stages after (stages_of task)) ≡ Ok so_far
    → EndsOver (checking task name) (told_stages after (stages_of (checking task name))) end
    → (end ≡ Ok (answer_of Yes)) ↔ IsValid model (typed_words Three so_far.material.log)
