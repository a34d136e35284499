-- What is written of the model that is inferred.
use Rattle.std.proofs.Common.{◌≡◌, ℕ, ◌+◌, ◌≤◌, List, length, Result, Ok, Err, IfOk, ap, subst}
use Rattle.invariants.specs.declared.records.Model.{Model}
use Rattle.models.specs.Models.{TypedWords, IsModelOf}
use Rattle.models.specs.Laws.{IsTypedLog, ModelsAreShaped, ModelsPass, ModelsTell}
use Rattle.models.specs.Limits.{IsWithinLimits, KeepsLimits}
use Rattle.model_file.specs.Tree.{file_text}
use Rattle.model_file.specs.Reading.{reads}
use Rattle.synoptic_cli.specs.Commands.Answered.{done}
use Rattle.synoptic_cli.specs.Commands.InferModel.{IsInferredFrom, WritesModel}

-- the log's model within the limits is well shaped, and keeps all that it promises
pub model-inferred : (log : TypedWords) (m : Model) → ModelsAreShaped → ModelsTell → ModelsPass → IsTypedLog log → IsWithinLimits log → IsModelOf m log → KeepsLimits m → IsInferredFrom log m
model-inferred log m shaped tell pass typed fits is within =
    let ids : length log.types + 2 + length m.splits ≤ 1024 = subst (λ (ts : List (List ℕ)). length ts + 2 + length m.splits ≤ 1024) is.types within.ids in
    let passes = pass m log typed is ids in
    record {
      inferred = is;
      within = within;
      shaped = shaped m log typed fits within is;
      promises = tell m log typed is;
      valid = passes.0;
      justified = passes.1;
    }

-- the same, if there is enough memory for it
pub model-if-made : {E : Type 0} (log : TypedWords) (r : Result Model E) → ModelsAreShaped → ModelsTell → ModelsPass → IsTypedLog log → IsWithinLimits log
    → IfOk r (λ m. IsModelOf m log) → IfOk r (λ m. KeepsLimits m) → IfOk r (IsInferredFrom log)
model-if-made log (Ok m) shaped tell pass typed fits is within = model-inferred log m shaped tell pass typed fits is within
model-if-made log (Err e) shaped tell pass typed fits is within = is

-- its file is written
pub model-written : (log : TypedWords) (m : Model) (text : List ℕ) → IsInferredFrom log m → text ≡ file_text m → reads text ≡ Ok m → WritesModel log (done text)
model-written log m text of same back =
    record {
      model = m;
      inferred = of.inferred;
      within = of.within;
      value = ap done same;
      reads_back = back;
      promises = of.promises;
      valid = of.valid;
      justified = of.justified;
    }
