use Rattle.partition_bounds.proofs.pairs.merges_are_few.Goals as goal
use Rattle.partition_bounds.proofs.Merges.{merges_are_few}

pub returns : goal.returns
returns c = merges_are_few
