use Rattle.partition_bounds.proofs.pairs.merge_satisfies.Goals as goal
use Rattle.partition_bounds.proofs.Blocks.{merge_satisfies}

pub returns : goal.returns
returns c = merge_satisfies
