use Rattle.partition_bounds.proofs.pairs.merged_are_below.Goals as goal
use Rattle.partition_bounds.proofs.Merges.{merged_are_below}

pub returns : goal.returns
returns c = merged_are_below
