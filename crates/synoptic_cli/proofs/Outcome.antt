-- Where the inputs of a task are read without a refusal, the status is that of its command.
use Rattle.std.proofs.Common.{◌≡◌, ℕ, Option, Some, None, Result, Ok, Err, refl, sym, ap, subst, inl, inr}
use Rattle.std.specs.Option.{IsSomeAnd}
use Rattle.invariants.specs.declared.Kinds.TheVariants.{Three}
use Rattle.models.specs.Models.{typed_words}
use Rattle.model_check.specs.declared.verdict.Verdict.{Verdict}
use Rattle.model_check.specs.declared.verdict.Verdict.TheVariants.{Yes, No}
use Rattle.replay_check.specs.declared.answer.Replay as rust
use Rattle.replay_check.specs.declared.answer.Replay.TheVariants as outcomes
use Rattle.made_logs.specs.MadeLogs.{made_log}
use Rattle.command_line.specs.Task.{Task}
use Rattle.command_line.specs.declared.table.Command.{Command}
use Rattle.command_line.specs.declared.table.Command.TheVariants.{Invariants, Graph, GraphOfModel, Infer, Check, Replay, Paths, Bench, Migrate}
use Rattle.synoptic_cli.specs.declared.answer.Answer.{Answer}
use Rattle.synoptic_cli.specs.declared.material.Material.{Material}
use Rattle.synoptic_cli.specs.declared.status.LimitKind.{LimitKind}
use Rattle.synoptic_cli.specs.declared.status.Status.{Status}
use Rattle.synoptic_cli.specs.declared.status.Status.TheVariants.{Limit}
use Rattle.synoptic_cli.specs.Stages.{SoFar, Stop}
use Rattle.synoptic_cli.specs.Commands.{AnswersBy}
use Rattle.synoptic_cli.specs.Commands.CheckModel.{Says, answer_of}
use Rattle.synoptic_cli.specs.Commands.ReplayModel as replay_model
use Rattle.synoptic_cli.specs.Commands.RunBench.{AnswersOf}
use Rattle.synoptic_cli.specs.Endings.{EndsAfter, end_status}
use Rattle.synoptic_cli.specs.Outcomes.{IsOfCheck, IsOfInference, IsOfReplay, IsOutcome, OutcomesAreKnown}

-- two answers that are alike have one status
same-status : (a b : Answer) → ◌≡◌ {A = Result Answer LimitKind} (Ok a) (Ok b) → a.status ≡ b.status
same-status a b is =
    let same : a ≡ b = cc in
    ap (λ (x : Answer). x.status) same

checked : (m : Material) (v : Verdict) (a : Answer) → ◌≡◌ {A = Result Answer LimitKind} (Ok a) (Ok (answer_of v)) → Says m.model (typed_words m.model.kinds m.log) v
    → IsOfCheck m.model (typed_words m.model.kinds m.log) a.status
checked m Yes a is says = inl (says.0, same-status a (answer_of Yes) is)
checked m (No part) a is says = inr (says.0, (part, says.1, same-status a (answer_of (No part)) is))

replayed : (m : Material) (v : rust.Replay) (a : Answer) → ◌≡◌ {A = Result Answer LimitKind} (Ok a) (Ok (replay_model.answer_of v)) → replay_model.Says m.model (typed_words m.model.kinds m.log) v
    → IsOfReplay m.model (typed_words m.model.kinds m.log) a.status
replayed m outcomes.Yes a is says = inl (says, same-status a (replay_model.answer_of outcomes.Yes) is)
replayed m (outcomes.No part) a is says = inr (says.0, (part, says.1, same-status a (replay_model.answer_of (outcomes.No part)) is))

benched : (number : Option ℕ) (a : Answer) → IsSomeAnd number (λ n. AnswersOf (made_log n) (Ok a)) → IsSomeAnd number (λ n. IsOfInference (typed_words Three (made_log n)) a.status)
benched None a answers = absurd answers
benched (Some n) a answers = inl (answers.0, ap (λ (x : Answer). x.status) answers.1.value)

-- what a command answers comes with a status of its own
answered : (command : Command) (task : Task) (m : Material) (a : Answer) → AnswersBy command task m (Ok a) → IsOutcome command task m a.status
answered Invariants task m a answers = same-status a _ answers.value
answered Graph task m a answers = same-status a _ answers.value
answered GraphOfModel task m a answers = same-status a _ answers.value
answered Infer task m a answers = inl (answers.0, ap (λ (x : Answer). x.status) answers.1.value)
answered Check task m a answers = checked m answers.verdict a answers.value answers.exact
answered Replay task m a answers = replayed m answers.outcome a answers.value answers.exact
answered Paths task m a answers = inl (answers.0, ap (λ (x : Answer). x.status) answers.1.value)
answered Bench task m a answers = benched task.number a answers
answered Migrate task m a answers = same-status a _ answers.value

-- an answer is no limit
no-limit : (kind : LimitKind) (a : Answer) → ◌≡◌ {A = Result Answer LimitKind} (Err kind) (Ok a) → ⊥
no-limit kind a is = cc

limited : (number : Option ℕ) (kind : LimitKind) → IsSomeAnd number (λ n. AnswersOf (made_log n) (Err kind)) → IsSomeAnd number (λ n. IsOfInference (typed_words Three (made_log n)) (Limit kind))
limited None kind answers = absurd answers
limited (Some n) kind answers = inr (kind, answers, refl)

-- and the limit that it stops at too
stopped : (command : Command) (task : Task) (m : Material) (kind : LimitKind) → AnswersBy command task m (Err kind) → IsOutcome command task m (Limit kind)
stopped Invariants task m kind answers = absurd (no-limit kind _ answers.value)
stopped Graph task m kind answers = absurd (no-limit kind _ answers.value)
stopped GraphOfModel task m kind answers = absurd (no-limit kind _ answers.value)
stopped Infer task m kind answers = inr (kind, answers, refl)
stopped Check task m kind answers = absurd (no-limit kind _ answers.value)
stopped Replay task m kind answers = absurd (no-limit kind _ answers.value)
stopped Paths task m kind answers = inr (kind, answers, refl)
stopped Bench task m kind answers = limited task.number kind answers
stopped Migrate task m kind answers = absurd (no-limit kind _ answers.value)

ended : (task : Task) (s : SoFar) (end : Result Answer Stop) → EndsAfter task (Ok s) end → IsOutcome task.command task s.material (end_status end)
ended task s (Ok a) ends = answered task.command task s.material a ends
ended task s (Err last) ends =
    subst (λ (stop : Stop). IsOutcome task.command task s.material stop.status) (sym ends.2) (stopped task.command task s.material ends.0 ends.1)

-- the status of a run of the task is that of its command
pub outcomes-known : OutcomesAreKnown
outcomes-known files task s status read told =
    subst (λ (x : Status). IsOutcome task.command task s.material x) told.is
    (ended task s told.end (subst (λ (r : Result SoFar Stop). EndsAfter task r told.end) read told.ends))
