use Rattle.std.proofs.lemmas.Result.{IfOk-weaker}
use Rattle.models.specs.Models.{typed_words}
use Rattle.synoptic_cli.proofs.commands.infer_model.write.Goals as goal

pub returns : goal.returns
returns c = IfOk-weaker c.text_of-written.result _ _ (λ _ writes. writes _ c.in_ok-model.ensures) c.text_of-written.ensures
