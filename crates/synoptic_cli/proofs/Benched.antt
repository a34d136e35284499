-- What a bench tells of a made log.
use Rattle.std.proofs.Common.{◌≡◌, ℕ, List, Ok, ap, subst, ◌∙◌}
use Rattle.traces.specs.Words.{Log}
use Rattle.invariants.specs.declared.Kinds.{Kinds}
use Rattle.invariants.specs.declared.Kinds.TheVariants.{Three}
use Rattle.invariants.specs.declared.records.Model.{Model}
use Rattle.models.specs.Models.{typed_words}
use Rattle.models.specs.Checks.{IsValid}
use Rattle.model_check.specs.declared.verdict.Verdict.TheVariants.{Yes}
use Rattle.model_file.specs.Reading.{reads}
use Rattle.synoptic_cli.specs.declared.answer.Answer.{Answer}
use Rattle.synoptic_cli.specs.Commands.Answered.{done}
use Rattle.synoptic_cli.specs.Commands.InferModel.{WritesModel}
use Rattle.synoptic_cli.specs.Commands.RunBench.{IsChecked, TellsRun, summary}

-- what is read back is what was written
same-model : (file : List ℕ) (read written : Model) → reads file ≡ Ok read → reads file ≡ Ok written → read ≡ written
same-model file read written one other = cc

-- a model that the check accepts is told
pub run-told : (log : Log) (file : Answer) (read : Model) (text : List ℕ) → WritesModel (typed_words Three log) file → IsChecked file.text (typed_words read.kinds log) read Yes → text ≡ summary log read
    → TellsRun log (done text)
run-told log file read text written checked said =
    let m = written.model in
    let same : read ≡ m = same-model file.text read m checked.model written.reads_back in
    record {
      model = m;
      inferred = written.inferred;
      within = written.within;
      reads_back = subst (λ (a : Answer). reads a.text ≡ Ok m) written.value written.reads_back;
      valid = subst (λ (kinds : Kinds). IsValid m (typed_words kinds log)) written.inferred.kinds (subst (λ (x : Model). IsValid x (typed_words x.kinds log)) same checked.verdict);
      promises = written.promises;
      value = ap done (said ∙ ap (summary log) same);
    }
