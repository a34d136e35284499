use Rattle.partition_bounds.proofs.paths.steps_exclude.Goals as goal
use Rattle.partition_bounds.proofs.FirstSplits.{steps_exclude}

pub returns : goal.returns
returns c = steps_exclude
