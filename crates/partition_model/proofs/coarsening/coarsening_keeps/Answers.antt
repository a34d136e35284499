use Rattle.partition_model.proofs.coarsening.coarsening_keeps.Goals as goal
use Rattle.partition_model.proofs.Keeping.{coarsening_keeps}

pub returns : goal.returns
returns c = coarsening_keeps
