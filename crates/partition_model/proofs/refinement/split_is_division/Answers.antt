use Rattle.partition_model.proofs.refinement.split_is_division.Goals as goal
use Rattle.partition_model.proofs.Splitting.{split_is_division}

pub returns : goal.returns
returns c = split_is_division
