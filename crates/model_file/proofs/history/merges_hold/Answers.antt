use Rattle.std.proofs.Common.{arith}
use Rattle.std.proofs.lemmas.Grind.{common_steps}
use Rattle.model_file.proofs.history.merges_hold.Goals as goal

pub merges-preserved : goal.merges-preserved
merges-preserved c = grind (arith, common_steps)
