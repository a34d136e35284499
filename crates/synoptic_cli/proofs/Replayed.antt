-- What the outcome of a replay says.
use Rattle.std.proofs.Common.{◌≡◌, Result, Ok, ap}
use Rattle.invariants.specs.declared.records.Model.{Model}
use Rattle.models.specs.Models.{typed_words, TypedWords}
use Rattle.models.specs.Laws.{FirstStepFails}
use Rattle.replay_check.specs.Answers.{IsReplay}
use Rattle.replay_check.specs.declared.answer.Replay.{Replay}
use Rattle.replay_check.specs.declared.answer.Replay.TheVariants.{Yes, No}
use Rattle.synoptic_cli.specs.declared.answer.Answer.{Answer}
use Rattle.synoptic_cli.specs.declared.material.Material.{Material}
use Rattle.synoptic_cli.specs.declared.status.LimitKind.{LimitKind}
use Rattle.synoptic_cli.specs.Commands.ReplayModel.{Answers, Says, answer_of}

-- a history of which a step fails is not justified
outcome-says : FirstStepFails → (m : Model) (log : TypedWords) (v : Replay) → IsReplay m log v → Says m log v
outcome-says fails m log Yes is = is
outcome-says fails m log (No part) is = (fails m log part is, is)

-- so the outcome of the replay, told, is the answer
pub outcome-told : FirstStepFails → (m : Material) (v : Replay) (a : Answer) → IsReplay m.model (typed_words m.model.kinds m.log) v → a ≡ answer_of v → Answers m (Ok a)
outcome-told fails m v a is told = record {
  outcome = v;
  value = ap (λ (x : Answer). let r : Result Answer LimitKind = Ok x in r) told;
  exact = outcome-says fails m.model (typed_words m.model.kinds m.log) v is;
}
