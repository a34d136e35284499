use Rattle.partition_bounds.proofs.pairs.merges_stay_below.Goals as goal
use Rattle.partition_bounds.proofs.Merges.{merges_stay_below}

pub returns : goal.returns
returns c = merges_stay_below
