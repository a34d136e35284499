use Rattle.partition_model.proofs.graphs.one_least.Goals as goal
use Rattle.partition_model.proofs.Least.{one_least}

pub returns : goal.returns
returns c = one_least
