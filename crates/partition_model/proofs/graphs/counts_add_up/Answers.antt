use Rattle.partition_model.proofs.graphs.counts_add_up.Goals as goal
use Rattle.partition_model.proofs.Adding.{counts_add_up}

pub returns : goal.returns
returns c = counts_add_up
