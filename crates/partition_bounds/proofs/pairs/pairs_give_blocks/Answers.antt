use Rattle.partition_bounds.proofs.pairs.pairs_give_blocks.Goals as goal
use Rattle.partition_bounds.proofs.BlockPairs.{pairs_give_blocks}

pub returns : goal.returns
returns c = pairs_give_blocks
