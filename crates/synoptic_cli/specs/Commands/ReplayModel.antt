-- `replay`: whether the history of a file's model is justified by a log, and if not, the first step that fails.
use Rattle.std.specs.Prelude.{ℕ, ◌≡◌, ◌++◌, List, codes, decimal, Result, Ok}
use Rattle.invariants.specs.declared.records.Model.{Model}
use Rattle.models.specs.Models.{typed_words, TypedWords}
use Rattle.models.specs.Histories.{IsJustified, IsFirstStep}
use Rattle.models.specs.declared.parts.ReplayPart.{ReplayPart}
use Rattle.models.specs.declared.parts.ReplayPart.TheVariants as steps
use Rattle.replay_check.specs.declared.answer.Replay.{Replay}
use Rattle.replay_check.specs.declared.answer.Replay.TheVariants.{Yes, No}
use Rattle.synoptic_cli.specs.declared.answer.Answer.{Answer}
use Rattle.synoptic_cli.specs.declared.material.Material.{Material}
use Rattle.synoptic_cli.specs.declared.status.LimitKind.{LimitKind}
use Rattle.synoptic_cli.specs.declared.status.Status.TheVariants.{NoReplay}
use Rattle.synoptic_cli.specs.Commands.Answered.{done}

-- the text that names the step that fails, with a decimal number
abbrev pub no_text : ReplayPart → List ℕ
no_text steps.Types = codes "no: types\n"
no_text (steps.Split k) = codes "no: split " ++ decimal k ++ codes "\n"
no_text (steps.Merge k) = codes "no: merge " ++ decimal k ++ codes "\n"
no_text steps.Graph = codes "no: graph\n"

-- the answer for the outcome of a replay
abbrev pub answer_of : Replay → Answer
answer_of Yes = done (codes "yes\n")
answer_of (No part) = record { status = NoReplay part; text = no_text part }

-- what an outcome says: the history of the model is justified by the log; or it is not, and this step is the first that
-- fails
abbrev pub Says : Model → TypedWords → Replay → Type 0
Says m log Yes = IsJustified m log
Says m log (No part) = (IsJustified m log → ⊥) × IsFirstStep m log part

-- the answer reports an outcome, which is right for the file's model and the log, with the kinds that the model names
pub record Answers (m : Material) (r : Result Answer LimitKind) : Type 0 where
  pub outcome : Replay
  pub value : r ≡ Ok (answer_of outcome)
  pub exact : Says m.model (typed_words m.model.kinds m.log) outcome
