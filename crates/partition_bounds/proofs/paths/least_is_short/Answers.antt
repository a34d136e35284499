use Rattle.partition_bounds.proofs.paths.least_is_short.Goals as goal
use Rattle.partition_bounds.proofs.Short.{least_is_short}

pub returns : goal.returns
returns c = least_is_short
