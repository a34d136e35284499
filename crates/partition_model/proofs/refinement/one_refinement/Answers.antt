use Rattle.partition_model.proofs.refinement.one_refinement.Goals as goal
use Rattle.partition_model.proofs.Unique.{one_refinement}

pub returns : goal.returns
returns c = one_refinement
