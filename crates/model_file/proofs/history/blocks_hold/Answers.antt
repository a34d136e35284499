use Rattle.std.proofs.Common.{arith}
use Rattle.std.proofs.lemmas.Grind.{common_steps}
use Rattle.model_file.proofs.history.blocks_hold.Goals as goal

pub each_block-preserved : goal.each_block-preserved
each_block-preserved c = grind (arith, common_steps)
