use Rattle.partition_bounds.proofs.pairs.pairs_are_few.Goals as goal
use Rattle.partition_bounds.proofs.Pairing.{pairs_are_few}

pub returns : goal.returns
returns c = pairs_are_few
