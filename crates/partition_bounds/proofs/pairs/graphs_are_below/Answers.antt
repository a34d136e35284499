use Rattle.partition_bounds.proofs.pairs.graphs_are_below.Goals as goal
use Rattle.partition_bounds.proofs.Merges.{graphs_are_below}

pub returns : goal.returns
returns c = graphs_are_below
