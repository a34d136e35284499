-- A run over told files ends in one way alone.
use Rattle.std.proofs.Common.{◌≡◌, List, ℕ, Option, Some, None, Result, Ok, Err, refl, sym, ap, ◌∙◌}
use Rattle.outside.specs.Inputs.{Files}
use Rattle.invariants.specs.declared.records.Model.{Model}
use Rattle.invariants.specs.declared.Kinds.{Kinds}
use Rattle.invariants.specs.declared.Kinds.TheVariants.{Three}
use Rattle.models.specs.Models.{typed_words, TypedWords}
use Rattle.models.specs.declared.parts.Part.{Part}
use Rattle.models.specs.declared.parts.ReplayPart.{ReplayPart}
use Rattle.models.proofs.FirstParts.{one_first_part}
use Rattle.models.proofs.FirstSteps.{one_first_step}
use Rattle.model_check.specs.declared.verdict.Verdict.{Verdict}
use Rattle.model_check.specs.declared.verdict.Verdict.TheVariants.{Yes, No}
use Rattle.replay_check.specs.declared.answer.Replay as rust
use Rattle.replay_check.specs.declared.answer.Replay.TheVariants as outcomes
use Rattle.command_line.specs.Task.{Task, task_of}
use Rattle.traces.specs.Words.{Log}
use Rattle.models.specs.Laws.{OneModel}
use Rattle.infer_core.specs.Laws.{EndsExclude, OneFinal}
use Rattle.made_logs.specs.MadeLogs.{made_log}
use Rattle.model_file.specs.Tree.{file_text}
use Rattle.reports.specs.Paths.{path_report}
use Rattle.command_line.specs.declared.table.Command.{Command}
use Rattle.command_line.specs.declared.table.Command.TheVariants.{Invariants, Graph, GraphOfModel, Infer, Check, Replay, Paths, Bench, Migrate}
use Rattle.synoptic_cli.specs.declared.answer.Answer.{Answer}
use Rattle.synoptic_cli.specs.declared.material.Material.{Material}
use Rattle.synoptic_cli.specs.declared.status.LimitKind.{LimitKind}
use Rattle.synoptic_cli.specs.declared.status.LimitKind.TheVariants as limits
use Rattle.synoptic_cli.specs.declared.status.Status.{Status}
use Rattle.synoptic_cli.specs.declared.status.Status.TheVariants.{Limit}
use Rattle.synoptic_cli.specs.Task.{input_count, kinds_of, stages_of}
use Rattle.synoptic_cli.specs.Stages.{SoFar, Stop, at_start, reads, stop_after}
use Rattle.synoptic_cli.specs.Commands.{AnswersBy}
use Rattle.synoptic_cli.specs.Commands.Answered.{done}
use Rattle.synoptic_cli.specs.Commands.CheckModel.{Says, answer_of}
use Rattle.synoptic_cli.specs.Commands.Inference.{AnswersInferred, PassesLimit}
use Rattle.synoptic_cli.specs.Commands.InferModel.{WritesModel}
use Rattle.synoptic_cli.specs.Commands.PrintPaths.{TellsPaths}
use Rattle.synoptic_cli.specs.Commands.ReplayModel as replay_model
use Rattle.synoptic_cli.specs.Commands.RunBench.{TellsRun, summary}
use Rattle.synoptic_cli.specs.Commands.RunBench as run_bench
use Rattle.synoptic_cli.specs.Endings.{EndsAfter, EndsAreOne, HasStatus, StatusesAreOne, end_status, told_stages}

-- a model and a log have one verdict alone
one-verdict : (m : Model) (log : TypedWords) (v w : Verdict) → Says m log v → Says m log w → v ≡ w
one-verdict m log Yes Yes a b = refl
one-verdict m log Yes (No part) a b = absurd (b.0 a.0)
one-verdict m log (No part) Yes a b = absurd (a.0 b.0)
one-verdict m log (No part) (No other) a b = ap (λ (p : Part). No p) (one_first_part m log part other a.1 b.1)

-- and one outcome of a replay
one-outcome : (m : Model) (log : TypedWords) (v w : rust.Replay) → replay_model.Says m log v → replay_model.Says m log w → v ≡ w
one-outcome m log outcomes.Yes outcomes.Yes a b = refl
one-outcome m log outcomes.Yes (outcomes.No part) a b = absurd (b.0 a)
one-outcome m log (outcomes.No part) outcomes.Yes a b = absurd (a.0 b)
one-outcome m log (outcomes.No part) (outcomes.No other) a b = ap (λ (p : ReplayPart). outcomes.No p) (one_first_step m log part other a.1 b.1)

-- the laws of inference that this rests on
pub record Laws : Type 0 where
  pub model : OneModel
  pub final : OneFinal
  pub ends : EndsExclude

-- inference of a log passes one limit alone
one-limit : Laws → (log : TypedWords) (j k : LimitKind) → PassesLimit j log → PassesLimit k log → j ≡ k
one-limit laws log limits.Partitions limits.Partitions p q = refl
one-limit laws log limits.Partitions limits.Paths p q = absurd (laws.ends.both log p q)
one-limit laws log limits.Partitions k p q = absurd q
one-limit laws log limits.Paths limits.Partitions p q = absurd (laws.ends.both log q p)
one-limit laws log limits.Paths limits.Paths p q = refl
one-limit laws log limits.Paths k p q = absurd q
one-limit laws log j k p q = absurd p

-- where there is one answer alone, inference ends in one way alone
one-inferred : Laws → (log : TypedWords) (IsAnswer : Answer → Type 0) → ((a b : Answer) → IsAnswer a → IsAnswer b → a ≡ b)
    → (r s : Result Answer LimitKind) → AnswersInferred log IsAnswer r → AnswersInferred log IsAnswer s → r ≡ s
one-inferred laws log IsAnswer one (Ok a) (Ok b) p q = ap (λ (x : Answer). Ok x) (one a b p.1 q.1)
one-inferred laws log IsAnswer one (Ok a) (Err k) p q = absurd (p.0 k q)
one-inferred laws log IsAnswer one (Err j) (Ok b) p q = absurd (q.0 j p)
one-inferred laws log IsAnswer one (Err j) (Err k) p q = ap (λ (x : LimitKind). Err x) (one-limit laws log j k p q)

-- one file is written of a log
one-file : Laws → (log : TypedWords) (a b : Answer) → WritesModel log a → WritesModel log b → a ≡ b
one-file laws log a b p q =
    p.value ∙ (ap (λ (m : Model). done (file_text m)) (laws.model p.model q.model log p.inferred q.inferred) ∙ sym q.value)

-- and one text of paths
one-text : Laws → (kinds : Kinds) (log : Log) (a b : Answer) → TellsPaths kinds log a → TellsPaths kinds log b → a ≡ b
one-text laws kinds log a b p q =
    p.value ∙ (ap (λ (ids : List ℕ). done (path_report log ids)) (laws.final (typed_words kinds log) p.ids q.ids p.final q.final) ∙ sym q.value)

-- and one summary
one-summary : Laws → (log : Log) (a b : Answer) → TellsRun log a → TellsRun log b → a ≡ b
one-summary laws log a b p q =
    p.value ∙ (ap (λ (m : Model). done (summary log m)) (laws.model p.model q.model (typed_words Three log) p.inferred q.inferred) ∙ sym q.value)

-- so of a made log
one-run : Laws → (number : Option ℕ) (r s : Result Answer LimitKind) → run_bench.Answers number r → run_bench.Answers number s → r ≡ s
one-run laws None r s a b = absurd a
one-run laws (Some n) r s a b = one-inferred laws (typed_words Three (made_log n)) (TellsRun (made_log n)) (one-summary laws (made_log n)) r s a b

-- a command has one answer alone: a line for each
one-answer : Laws → (command : Command) (task : Task) (m : Material) (r s : Result Answer LimitKind) → AnswersBy command task m r → AnswersBy command task m s → r ≡ s
one-answer laws Invariants task m r s a b = a.value ∙ sym b.value
one-answer laws Graph task m r s a b = a.value ∙ sym b.value
one-answer laws GraphOfModel task m r s a b = a.value ∙ sym b.value
one-answer laws Infer task m r s a b =
    let log : TypedWords = typed_words (kinds_of task) m.log in
    one-inferred laws log (WritesModel log) (one-file laws log) r s a b
one-answer laws Check task m r s a b =
    let same : a.verdict ≡ b.verdict = one-verdict m.model (typed_words m.model.kinds m.log) a.verdict b.verdict a.exact b.exact in
    a.value ∙ (ap (λ (v : Verdict). let t : Result Answer LimitKind = Ok (answer_of v) in t) same ∙ sym b.value)
one-answer laws Replay task m r s a b =
    let same : a.outcome ≡ b.outcome = one-outcome m.model (typed_words m.model.kinds m.log) a.outcome b.outcome a.exact b.exact in
    a.value ∙ (ap (λ (v : rust.Replay). let t : Result Answer LimitKind = Ok (replay_model.answer_of v) in t) same ∙ sym b.value)
one-answer laws Paths task m r s a b =
    one-inferred laws (typed_words (kinds_of task) m.log) (TellsPaths (kinds_of task) m.log) (one-text laws (kinds_of task) m.log) r s a b
one-answer laws Bench task m r s a b = one-run laws task.number r s a b
one-answer laws Migrate task m r s a b = a.value ∙ sym b.value

-- so a run ends in one way alone after a reading
one-end : Laws → (task : Task) (read : Result SoFar Stop) (a b : Result Answer Stop) → EndsAfter task read a → EndsAfter task read b → a ≡ b
one-end laws task (Err stop) (Ok a) b p q = absurd p
one-end laws task (Err stop) (Err a) (Ok b) p q = absurd q
one-end laws task (Err stop) (Err a) (Err b) p q = ap (λ (s : Stop). Err s) (p ∙ sym q)
one-end laws task (Ok so_far) (Ok a) (Ok b) p q =
    let same : ◌≡◌ {A = Result Answer LimitKind} (Ok a) (Ok b) = one-answer laws task.command task so_far.material (Ok a) (Ok b) p q in
    let is : a ≡ b = cc in
    ap (λ (x : Answer). Ok x) is
one-end laws task (Ok so_far) (Ok a) (Err b) p q =
    let same : ◌≡◌ {A = Result Answer LimitKind} (Ok a) (Err q.0) = one-answer laws task.command task so_far.material (Ok a) (Err q.0) p q.1 in
    cc
one-end laws task (Ok so_far) (Err a) (Ok b) p q =
    let same : ◌≡◌ {A = Result Answer LimitKind} (Ok b) (Err p.0) = one-answer laws task.command task so_far.material (Ok b) (Err p.0) q p.1 in
    cc
one-end laws task (Ok so_far) (Err a) (Err b) p q =
    let same : ◌≡◌ {A = Result Answer LimitKind} (Err p.0) (Err q.0) = one-answer laws task.command task so_far.material (Err p.0) (Err q.0) p.1 q.1 in
    let is : p.0 ≡ q.0 = cc in
    ap (λ (s : Stop). Err s) (p.2 ∙ (ap (λ (kind : LimitKind). stop_after (input_count (stages_of task)) (Limit kind)) is ∙ sym q.2))

one-status : Laws → (asked : Option Task) (files : Files) (a b : Status) → HasStatus asked files a → HasStatus asked files b → a ≡ b
one-status laws None files a b p q = p ∙ sym q
one-status laws (Some task) files a b p q =
    sym p.is ∙ (ap end_status (one-end laws task (reads at_start (told_stages files (stages_of task))) p.end q.end p.ends q.ends) ∙ q.is)

-- the words and the files have one status alone
pub statuses-are-one : Laws → StatusesAreOne
statuses-are-one laws words files a b p q = one-status laws (task_of words) files a b p q

-- a run of a task over told files ends by one answer or one stop alone
pub ends-are-one : Laws → EndsAreOne
ends-are-one laws task files a b p q = one-end laws task (reads at_start (told_stages files (stages_of task))) a b p q
