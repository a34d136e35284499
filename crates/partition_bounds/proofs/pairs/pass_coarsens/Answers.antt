use Rattle.partition_bounds.proofs.pairs.pass_coarsens.Goals as goal
use Rattle.partition_bounds.proofs.Merges.{pass_coarsens}

pub returns : goal.returns
returns c = pass_coarsens
