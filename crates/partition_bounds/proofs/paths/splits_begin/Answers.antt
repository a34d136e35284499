use Rattle.partition_bounds.proofs.paths.splits_begin.Goals as goal
use Rattle.partition_bounds.proofs.FirstSplits.{splits_begin}

pub returns : goal.returns
returns c = splits_begin
