use Rattle.partition_model.proofs.coarsening.lost_stays_lost.Goals as goal
use Rattle.partition_model.proofs.Merging.{lost_stays_lost}

pub returns : goal.returns
returns c = lost_stays_lost
