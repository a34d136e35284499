-- How each command ends if the inputs of its task are read without a refusal.
use Rattle.std.specs.Prelude.{◌≡◌, ◌⊎◌, Ok}
use Rattle.std.specs.Option.{IsSomeAnd}
use Rattle.outside.specs.Inputs.{Files}
use Rattle.invariants.specs.declared.Kinds.TheVariants.{Three}
use Rattle.invariants.specs.declared.records.Model.{Model}
use Rattle.models.specs.Models.{typed_words, TypedWords}
use Rattle.models.specs.Checks.{IsValid, IsFirstPart}
use Rattle.models.specs.Histories.{IsJustified, IsFirstStep}
use Rattle.models.specs.declared.parts.Part.{Part}
use Rattle.models.specs.declared.parts.ReplayPart.{ReplayPart}
use Rattle.made_logs.specs.MadeLogs.{made_log}
use Rattle.command_line.specs.Task.{Task}
use Rattle.command_line.specs.declared.table.Command.{Command}
use Rattle.command_line.specs.declared.table.Command.TheVariants.{Invariants, Graph, GraphOfModel, Infer, Check, Replay, Paths, Bench, Migrate}
use Rattle.synoptic_cli.specs.declared.material.Material.{Material}
use Rattle.synoptic_cli.specs.declared.status.LimitKind.{LimitKind}
use Rattle.synoptic_cli.specs.declared.status.Status.{Status}
use Rattle.synoptic_cli.specs.declared.status.Status.TheVariants.{Done, NoCheck, NoReplay, Limit}
use Rattle.synoptic_cli.specs.Task.{kinds_of, stages_of}
use Rattle.synoptic_cli.specs.Stages.{at_start, reads, SoFar}
use Rattle.synoptic_cli.specs.Commands.Inference.{PassesLimit, PassesNone}
use Rattle.synoptic_cli.specs.Endings.{EndsTold, told_stages}

-- inference of the log exceeds no limit and the status is Done; or it exceeds one and the status names it
abbrev pub IsOfInference : TypedWords → Status → Type 0
IsOfInference log status =
    (PassesNone log × (status ≡ Done)) ⊎ ((kind : LimitKind) × PassesLimit kind log × (status ≡ Limit kind))

-- the model is valid for the log and the status is Done; or it is not, and the status names the first part that fails
abbrev pub IsOfCheck : Model → TypedWords → Status → Type 0
IsOfCheck m log status =
    (IsValid m log × (status ≡ Done))
    ⊎ ((IsValid m log → ⊥) × ((part : Part) × IsFirstPart m log part × (status ≡ NoCheck part)))

-- the model's history is justified by the log and the status is Done; or it is not, and the status names the first step
-- that fails
abbrev pub IsOfReplay : Model → TypedWords → Status → Type 0
IsOfReplay m log status =
    (IsJustified m log × (status ≡ Done))
    ⊎ ((IsJustified m log → ⊥) × ((part : ReplayPart) × IsFirstStep m log part × (status ≡ NoReplay part)))

-- the status of the command for what was read: Done, its own no, or the limit that its inference exceeds
abbrev pub IsOutcome : Command → Task → Material → Status → Type 0
IsOutcome Invariants task m status = status ≡ Done
IsOutcome Graph task m status = status ≡ Done
IsOutcome GraphOfModel task m status = status ≡ Done
IsOutcome Infer task m status = IsOfInference (typed_words (kinds_of task) m.log) status
IsOutcome Check task m status = IsOfCheck m.model (typed_words m.model.kinds m.log) status
IsOutcome Replay task m status = IsOfReplay m.model (typed_words m.model.kinds m.log) status
IsOutcome Paths task m status = IsOfInference (typed_words (kinds_of task) m.log) status
IsOutcome Bench task m status = IsSomeAnd task.number (λ n. IsOfInference (typed_words Three (made_log n)) status)
IsOutcome Migrate task m status = status ≡ Done

-- if the inputs of a task are read without a refusal, a run of the task ends with the status of its command for what
-- was read
abbrev pub OutcomesAreKnown : Type 0
OutcomesAreKnown =
    (files : Files) (task : Task) (so_far : SoFar) (status : Status)
    → reads at_start (told_stages files (stages_of task)) ≡ Ok so_far
    → EndsTold files task status → IsOutcome task.command task so_far.material status
