-- `infer`: the model of a log, for the kinds of invariants asked for.
use Rattle.std.specs.Prelude.{◌≡◌, Result, Ok}
use Rattle.invariants.specs.declared.Kinds.{Kinds}
use Rattle.invariants.specs.declared.records.Model.{Model}
use Rattle.models.specs.Models.{typed_words, TypedWords, IsModelOf}
use Rattle.model_shape.specs.Shapes.{IsWellShaped}
use Rattle.models.specs.Limits.{KeepsLimits}
use Rattle.models.specs.Checks.{IsValid, Promises}
use Rattle.models.specs.Histories.{IsJustified}
use Rattle.model_file.specs.Tree.{file_text}
use Rattle.model_file.specs.Reading.{reads}
use Rattle.synoptic_cli.specs.declared.answer.Answer.{Answer}
use Rattle.synoptic_cli.specs.declared.material.Material.{Material}
use Rattle.synoptic_cli.specs.declared.status.LimitKind.{LimitKind}
use Rattle.synoptic_cli.specs.Commands.Answered.{done}
use Rattle.synoptic_cli.specs.Commands.Inference.{AnswersInferred}

-- the model is that of the log, within the limits and well shaped. It keeps all that a valid model promises, is valid, and has
-- a justified history.
pub record IsInferredFrom (log : TypedWords) (m : Model) : Type 0 where
  pub inferred : IsModelOf m log
  pub within : KeepsLimits m
  pub shaped : IsWellShaped m
  pub promises : Promises m log
  pub valid : IsValid m log
  pub justified : IsJustified m log

-- the text is the file of the log's model, within the limits. It reads back as the same model, which keeps all that a
-- valid model promises, is valid, and has a justified history.
pub record WritesModel (log : TypedWords) (a : Answer) : Type 0 where
  pub model : Model
  pub inferred : IsModelOf model log
  pub within : KeepsLimits model
  pub value : a ≡ done (file_text model)
  pub reads_back : reads a.text ≡ Ok model
  pub promises : Promises model log
  pub valid : IsValid model log
  pub justified : IsJustified model log

-- the answer: the file of the log's model, or the limit that its inference exceeds
abbrev pub Answers : Kinds → Material → Result Answer LimitKind → Type 0
Answers kinds m r = AnswersInferred (typed_words kinds m.log) (WritesModel (typed_words kinds m.log)) r
