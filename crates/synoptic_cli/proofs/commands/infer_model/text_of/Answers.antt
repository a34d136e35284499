use Rattle.synoptic_cli.proofs.Inferred.{model-written}
use Rattle.synoptic_cli.proofs.commands.infer_model.text_of.Goals as goal

pub returns : goal.returns
returns c = λ log of. model-written log c.args.model.now c.in_ok-text.text of c.in_ok-text.ensures.value c.in_ok-text.ensures.reads_back
