use Rattle.std.proofs.Common.{arith}
use Rattle.std.proofs.lemmas.Grind.{common_steps}
use Rattle.model_file.proofs.shape.partitions_hold.Goals as goal

pub others-preserved : goal.others-preserved
others-preserved c = grind (arith, common_steps)
