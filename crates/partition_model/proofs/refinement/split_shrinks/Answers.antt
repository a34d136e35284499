use Rattle.partition_model.proofs.refinement.split_shrinks.Goals as goal
use Rattle.partition_model.proofs.Splitting.{split_shrinks}

pub returns : goal.returns
returns c = split_shrinks
