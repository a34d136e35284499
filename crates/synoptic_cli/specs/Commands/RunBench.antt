-- `bench`: the model of a generated log, for three kinds of invariants, written, read back and checked, and all sizes.
use Rattle.std.specs.Prelude.{ℕ, ◌≡◌, ◌++◌, List, length, codes, decimal, Option, Result, Ok}
use Rattle.std.specs.Option.{IsSomeAnd}
use Rattle.traces.specs.Words.{Log, event_count_of}
use Rattle.invariants.specs.declared.Kinds.TheVariants.{Three}
use Rattle.invariants.specs.declared.records.Model.{Model}
use Rattle.models.specs.Models.{typed_words, TypedWords, IsModelOf}
use Rattle.models.specs.Limits.{KeepsLimits}
use Rattle.models.specs.Checks.{IsValid, Promises}
use Rattle.model_check.specs.Verdicts.{IsVerdict}
use Rattle.model_check.specs.declared.verdict.Verdict.{Verdict}
use Rattle.model_file.specs.Tree.{file_text}
use Rattle.model_file.specs.Reading.{reads}
use Rattle.made_logs.specs.MadeLogs.{made_log}
use Rattle.synoptic_cli.specs.declared.answer.Answer.{Answer}
use Rattle.synoptic_cli.specs.declared.status.LimitKind.{LimitKind}
use Rattle.synoptic_cli.specs.Commands.Answered.{done}
use Rattle.synoptic_cli.specs.Commands.Inference.{AnswersInferred}

-- a line with a count
abbrev pub count_line : List ℕ → ℕ → List ℕ
count_line what number = what ++ decimal number ++ codes "\n"

-- the sizes of the log
abbrev pub log_lines : Log → List ℕ
log_lines log =
    count_line (codes "traces ") (length log.traces)
    ++ count_line (codes "events ") (event_count_of log.traces)
    ++ count_line (codes "types ") (length log.types)

-- the sizes of the model
abbrev pub model_lines : Model → List ℕ
model_lines m =
    count_line (codes "invariants ") (length m.invariants) ++ count_line (codes "splits ") (length m.splits)
    ++ count_line (codes "merges ") (length m.merges)
    ++ count_line (codes "partitions ") (length m.partitions)

-- the eight lines, for a model that the check accepts
abbrev pub summary : Log → Model → List ℕ
summary log m = log_lines log ++ model_lines m ++ codes "check yes\n"

-- the text is read as a model
abbrev pub SaysModel : List ℕ → Type 0
SaysModel text = (m : Model) × (reads text ≡ Ok m)

-- the model that the text is read as, and the verdict on it for a log
pub record IsChecked (text : List ℕ) (log : TypedWords) (m : Model) (v : Verdict) : Type 0 where
  pub model : reads text ≡ Ok m
  pub verdict : IsVerdict m log v

-- The lines report the log and its model. The model's file reads back as the same model, which is valid for the log and
-- keeps all that a valid model promises.
pub record TellsRun (log : Log) (a : Answer) : Type 0 where
  pub model : Model
  pub inferred : IsModelOf model (typed_words Three log)
  pub within : KeepsLimits model
  pub reads_back : reads (file_text model) ≡ Ok model
  pub valid : IsValid model (typed_words Three log)
  pub promises : Promises model (typed_words Three log)
  pub value : a ≡ done (summary log model)

-- the answer for a log: the sizes of it and its model, or the limit that its inference exceeds
abbrev pub AnswersOf : Log → Result Answer LimitKind → Type 0
AnswersOf log r = AnswersInferred (typed_words Three log) (TellsRun log) r

-- the answer for this number of sessions
abbrev pub Answers : Option ℕ → Result Answer LimitKind → Type 0
Answers number r = IsSomeAnd number (λ n. AnswersOf (made_log n) r)
