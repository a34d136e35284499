use Rattle.std.proofs.Common.{arith}
use Rattle.std.proofs.lemmas.Grind.{common_steps}
use Rattle.model_file.proofs.shape.stands_in.Goals as goal

pub later-preserved : goal.later-preserved
later-preserved c = grind (arith, common_steps)
