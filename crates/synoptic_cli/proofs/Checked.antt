-- What a verdict on a model says.
use Rattle.std.proofs.Common.{◌≡◌, Result, Ok, ap}
use Rattle.invariants.specs.declared.records.Model.{Model}
use Rattle.models.specs.Models.{typed_words, TypedWords}
use Rattle.models.specs.Laws.{FirstPartFails, ValidTells}
use Rattle.model_check.specs.Verdicts.{IsVerdict}
use Rattle.model_check.specs.declared.verdict.Verdict.{Verdict}
use Rattle.model_check.specs.declared.verdict.Verdict.TheVariants.{Yes, No}
use Rattle.synoptic_cli.specs.declared.answer.Answer.{Answer}
use Rattle.synoptic_cli.specs.declared.material.Material.{Material}
use Rattle.synoptic_cli.specs.declared.status.LimitKind.{LimitKind}
use Rattle.synoptic_cli.specs.Commands.CheckModel.{Answers, Says, answer_of}

-- a valid model keeps its promises, and one of which a part fails is not valid
verdict-says : ValidTells → FirstPartFails → (m : Model) (log : TypedWords) (v : Verdict) → IsVerdict m log v → Says m log v
verdict-says tells fails m log Yes is = (is, tells m log is)
verdict-says tells fails m log (No part) is = (fails m log part is, is)

-- so the verdict of the check, told, is the answer
pub verdict-told : ValidTells → FirstPartFails → (m : Material) (v : Verdict) (a : Answer) → IsVerdict m.model (typed_words m.model.kinds m.log) v → a ≡ answer_of v → Answers m (Ok a)
verdict-told tells fails m v a is told = record {
  verdict = v;
  value = ap (λ (x : Answer). let r : Result Answer LimitKind = Ok x in r) told;
  exact = verdict-says tells fails m.model (typed_words m.model.kinds m.log) v is;
}
