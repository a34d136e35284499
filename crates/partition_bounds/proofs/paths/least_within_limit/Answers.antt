use Rattle.partition_bounds.proofs.paths.least_within_limit.Goals as goal
use Rattle.partition_bounds.proofs.Shorter.{least_within_limit}

pub returns : goal.returns
returns c = least_within_limit
