use Rattle.partition_model.proofs.refinement.runs_keep.Goals as goal
use Rattle.partition_model.proofs.Runs.{runs_keep}

pub returns : goal.returns
returns c = runs_keep
