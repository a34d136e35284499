use Rattle.partition_model.proofs.coarsening.merged_paths_avoid.Goals as goal
use Rattle.partition_model.proofs.Forming.{merged_paths_avoid}

pub returns : goal.returns
returns c = merged_paths_avoid
