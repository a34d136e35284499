use Rattle.std.proofs.Common.{arith}
use Rattle.std.proofs.lemmas.Grind.{common_steps}
use Rattle.model_file.proofs.shape.partitions_ascend.Goals as goal

pub partitions-preserved : goal.partitions-preserved
partitions-preserved c = grind (arith, common_steps)
