use Rattle.partition_bounds.proofs.paths.least_is_shorter.Goals as goal
use Rattle.partition_bounds.proofs.Shorter.{least_is_shorter}

pub returns : goal.returns
returns c = least_is_shorter
