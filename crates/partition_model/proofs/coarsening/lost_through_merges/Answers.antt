use Rattle.partition_model.proofs.coarsening.lost_through_merges.Goals as goal
use Rattle.partition_model.proofs.Passes.{lost_through_merges}

pub returns : goal.returns
returns c = lost_through_merges
