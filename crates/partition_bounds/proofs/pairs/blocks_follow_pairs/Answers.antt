use Rattle.partition_bounds.proofs.pairs.blocks_follow_pairs.Goals as goal
use Rattle.partition_bounds.proofs.BlockPairs.{blocks_follow_pairs}

pub returns : goal.returns
returns c = blocks_follow_pairs
