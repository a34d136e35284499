use Rattle.partition_model.proofs.coarsening.merge_is_merged.Goals as goal
use Rattle.partition_model.proofs.MergedGraph.{merge_is_merged}

pub returns : goal.returns
returns c = merge_is_merged
