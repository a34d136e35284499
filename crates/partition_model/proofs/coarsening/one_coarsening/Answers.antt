use Rattle.partition_model.proofs.coarsening.one_coarsening.Goals as goal
use Rattle.partition_model.proofs.Unique.{one_coarsening}

pub returns : goal.returns
returns c = one_coarsening
