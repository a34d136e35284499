use Rattle.partition_bounds.proofs.pairs.one_blocks.Goals as goal
use Rattle.partition_bounds.proofs.Blocks.{one_blocks}

pub returns : goal.returns
returns c = one_blocks
