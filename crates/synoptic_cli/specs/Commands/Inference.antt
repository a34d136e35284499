-- How the inference that a command needs ends.
use Rattle.std.specs.Prelude.{Result, Ok, Err, ⊤}
use Rattle.infer_core.specs.Runs.{PassesNumbers, PassesPartitions}
use Rattle.infer_core.specs.declared.workbench.InferLimit.{InferLimit}
use Rattle.infer_core.specs.declared.workbench.InferLimit.TheVariants as infer_limit
use Rattle.models.specs.Models.{TypedWords}
use Rattle.synoptic_cli.specs.declared.answer.Answer.{Answer}
use Rattle.synoptic_cli.specs.declared.answer.NoAnswer.{NoAnswer}
use Rattle.synoptic_cli.specs.declared.answer.NoAnswer.TheVariants as no_answer
use Rattle.synoptic_cli.specs.declared.status.LimitKind.{LimitKind}
use Rattle.synoptic_cli.specs.declared.status.LimitKind.TheVariants as limits

-- the run's limit for a limit of inference
abbrev pub kind_of : InferLimit → LimitKind
kind_of infer_limit.Partitions = limits.Partitions
kind_of infer_limit.Evidence = limits.Paths

-- inference of the log exceeds this limit
abbrev pub PassesLimit : LimitKind → TypedWords → Type 0
PassesLimit limits.Partitions log = PassesPartitions log
PassesLimit limits.Paths log = PassesNumbers log
PassesLimit kind log = ⊥

-- inference of the log exceeds no limit
abbrev pub PassesNone : TypedWords → Type 0
PassesNone log = (kind : LimitKind) → PassesLimit kind log → ⊥

-- if inference of the log exceeds no limit, the answer is as IsAnswer says; else it is a limit that is exceeded
abbrev pub AnswersInferred : TypedWords → (Answer → Type 0) → Result Answer LimitKind → Type 0
AnswersInferred log IsAnswer (Ok a) = PassesNone log × IsAnswer a
AnswersInferred log IsAnswer (Err kind) = PassesLimit kind log

-- why no model is inferred: a limit is exceeded, or memory ran out
abbrev pub NotInferred : TypedWords → NoAnswer → Type 0
NotInferred log (no_answer.Limit kind) = PassesLimit kind log
NotInferred log no_answer.Memory = ⊤
