use Rattle.partition_model.proofs.graphs.inductive_satisfies.Goals as goal
use Rattle.partition_model.proofs.Labelling.{inductive_satisfies}

pub returns : goal.returns
returns c = inductive_satisfies
