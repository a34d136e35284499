use Rattle.partition_model.proofs.coarsening.merged_keeps.Goals as goal
use Rattle.partition_model.proofs.Merging.{merged_keeps}

pub returns : goal.returns
returns c = merged_keeps
