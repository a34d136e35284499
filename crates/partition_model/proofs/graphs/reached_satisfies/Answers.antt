use Rattle.partition_model.proofs.graphs.reached_satisfies.Goals as goal
use Rattle.partition_model.proofs.Labelling.{reached_satisfies}

pub returns : goal.returns
returns c = reached_satisfies
