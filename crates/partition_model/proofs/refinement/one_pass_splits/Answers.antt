use Rattle.partition_model.proofs.refinement.one_pass_splits.Goals as goal
use Rattle.partition_model.proofs.Runs.{one_pass_splits}

pub returns : goal.returns
returns c = one_pass_splits
