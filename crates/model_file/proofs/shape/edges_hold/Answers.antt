use Rattle.std.proofs.Common.{arith}
use Rattle.std.proofs.lemmas.Grind.{common_steps}
use Rattle.model_file.proofs.shape.edges_hold.Goals as goal

pub edges-preserved : goal.edges-preserved
edges-preserved c = grind (arith, common_steps)
