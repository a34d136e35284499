use Rattle.std.proofs.Common.{arith}
use Rattle.std.proofs.lemmas.Grind.{common_steps}
use Rattle.model_file.proofs.shape.invariants_hold.Goals as goal

pub invariants-preserved : goal.invariants-preserved
invariants-preserved c = grind (arith, common_steps)
