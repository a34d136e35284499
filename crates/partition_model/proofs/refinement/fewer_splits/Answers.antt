use Rattle.partition_model.proofs.refinement.fewer_splits.Goals as goal
use Rattle.partition_model.proofs.Runs.{fewer_splits}

pub returns : goal.returns
returns c = fewer_splits
