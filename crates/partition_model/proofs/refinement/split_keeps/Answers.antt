use Rattle.partition_model.proofs.refinement.split_keeps.Goals as goal
use Rattle.partition_model.proofs.Splitting.{split_keeps}

pub returns : goal.returns
returns c = split_keeps
