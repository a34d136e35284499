use Rattle.partition_model.proofs.coarsening.merge_grows.Goals as goal
use Rattle.partition_model.proofs.Merging.{merge_grows}

pub returns : goal.returns
returns c = merge_grows
