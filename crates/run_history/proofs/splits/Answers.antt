use Rattle.std.proofs.Common.{arith}
use Rattle.std.proofs.lemmas.Grind.{common_steps}
use Rattle.run_history.proofs.splits.Goals as goal

pub loop-split-preserved : goal.loop-split-preserved
loop-split-preserved c = grind (arith, common_steps)
