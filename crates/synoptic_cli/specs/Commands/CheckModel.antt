-- `check`: whether the model of a file is valid for a log, and if not, the first part that fails.
use Rattle.std.specs.Prelude.{ℕ, ◌≡◌, ◌++◌, List, codes, decimal, Result, Ok}
use Rattle.invariants.specs.declared.records.Model.{Model}
use Rattle.models.specs.Models.{typed_words, TypedWords}
use Rattle.models.specs.Checks.{IsValid, IsFirstPart, Promises}
use Rattle.models.specs.declared.parts.Part.{Part}
use Rattle.models.specs.declared.parts.Part.TheVariants as parts
use Rattle.model_check.specs.declared.verdict.Verdict.{Verdict}
use Rattle.model_check.specs.declared.verdict.Verdict.TheVariants.{Yes, No}
use Rattle.synoptic_cli.specs.declared.answer.Answer.{Answer}
use Rattle.synoptic_cli.specs.declared.material.Material.{Material}
use Rattle.synoptic_cli.specs.declared.status.LimitKind.{LimitKind}
use Rattle.synoptic_cli.specs.declared.status.Status.TheVariants.{NoCheck}
use Rattle.synoptic_cli.specs.Commands.Answered.{done}

-- the text that names the part that fails, with decimal numbers
abbrev pub no_text : Part → List ℕ
no_text parts.Types = codes "no: types\n"
no_text (parts.Listing k) = codes "no: listing " ++ decimal k ++ codes "\n"
no_text (parts.Trace t) = codes "no: trace " ++ decimal t ++ codes "\n"
no_text (parts.Label i) = codes "no: label " ++ decimal i ++ codes "\n"
no_text (parts.Block p q) = codes "no: block " ++ decimal p ++ codes " " ++ decimal q ++ codes "\n"

-- the answer for a verdict
abbrev pub answer_of : Verdict → Answer
answer_of Yes = done (codes "yes\n")
answer_of (No part) = record { status = NoCheck part; text = no_text part }

-- what a verdict says: the model is valid for the log and keeps all that a valid model promises; or it is not valid,
-- and this part is the first that fails
abbrev pub Says : Model → TypedWords → Verdict → Type 0
Says m log Yes = IsValid m log × Promises m log
Says m log (No part) = (IsValid m log → ⊥) × IsFirstPart m log part

-- the answer reports a verdict, which is right for the file's model and the log, with the kinds that the model names
pub record Answers (m : Material) (r : Result Answer LimitKind) : Type 0 where
  pub verdict : Verdict
  pub value : r ≡ Ok (answer_of verdict)
  pub exact : Says m.model (typed_words m.model.kinds m.log) verdict
