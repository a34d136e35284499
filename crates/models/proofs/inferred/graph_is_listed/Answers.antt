use Rattle.models.proofs.inferred.graph_is_listed.Goals as goal
use Rattle.models.proofs.Listed.{graph_is_listed}

pub returns : goal.returns
returns c = graph_is_listed
