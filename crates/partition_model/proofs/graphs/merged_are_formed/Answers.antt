use Rattle.partition_model.proofs.graphs.merged_are_formed.Goals as goal
use Rattle.partition_model.proofs.Forming.{merged_are_formed}

pub returns : goal.returns
returns c = merged_are_formed
