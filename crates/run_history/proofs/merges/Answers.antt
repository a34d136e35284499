use Rattle.std.proofs.Common.{arith}
use Rattle.std.proofs.lemmas.Grind.{common_steps}
use Rattle.run_history.proofs.merges.Goals as goal

pub loop-merge-preserved : goal.loop-merge-preserved
loop-merge-preserved c = grind (arith, common_steps)
