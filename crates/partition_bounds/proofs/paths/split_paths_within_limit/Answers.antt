use Rattle.partition_bounds.proofs.paths.split_paths_within_limit.Goals as goal
use Rattle.partition_bounds.proofs.SplitPaths.{split_paths_within_limit}

pub returns : goal.returns
returns c = split_paths_within_limit
