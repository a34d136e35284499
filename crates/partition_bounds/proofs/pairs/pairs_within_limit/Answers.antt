use Rattle.partition_bounds.proofs.pairs.pairs_within_limit.Goals as goal
use Rattle.partition_bounds.proofs.Pairing.{pairs_within_limit}

pub returns : goal.returns
returns c = pairs_within_limit
