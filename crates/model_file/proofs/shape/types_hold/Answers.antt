use Rattle.std.proofs.Common.{arith}
use Rattle.std.proofs.lemmas.Grind.{common_steps}
use Rattle.model_file.proofs.shape.types_hold.Goals as goal

pub types-preserved : goal.types-preserved
types-preserved c = grind (arith, common_steps)
