use Rattle.model_exists.proofs.coarsening_ends.Goals as goal
use Rattle.model_exists.proofs.Merges.{coarsening_ends}

pub returns : goal.returns
returns c = coarsening_ends
