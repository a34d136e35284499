use Rattle.partition_model.proofs.graphs.reached_is_inductive.Goals as goal
use Rattle.partition_model.proofs.Labelling.{reached_inductive}

pub returns : goal.returns
returns c = reached_inductive
