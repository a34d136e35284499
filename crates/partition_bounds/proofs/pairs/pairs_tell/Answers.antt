use Rattle.partition_bounds.proofs.pairs.pairs_tell.Goals as goal
use Rattle.partition_bounds.proofs.Pairing.{pairs_tell}

pub returns : goal.returns
returns c = pairs_tell
