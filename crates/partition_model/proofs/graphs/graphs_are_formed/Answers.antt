use Rattle.partition_model.proofs.graphs.graphs_are_formed.Goals as goal
use Rattle.partition_model.proofs.Forming.{graphs_are_formed}

pub returns : goal.returns
returns c = graphs_are_formed
