use Rattle.partition_model.proofs.refinement.rests_stay_together.Goals as goal
use Rattle.partition_model.proofs.Rests.{rests_stay_together}

pub returns : goal.returns
returns c = rests_stay_together
