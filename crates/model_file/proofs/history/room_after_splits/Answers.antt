use Rattle.std.proofs.Common.{arith}
use Rattle.std.proofs.lemmas.Grind.{common_steps}
use Rattle.model_file.proofs.history.room_after_splits.Goals as goal

pub splits-preserved : goal.splits-preserved
splits-preserved c = grind (arith, common_steps)
