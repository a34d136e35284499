use Rattle.partition_model.proofs.coarsening.one_pass_merges.Goals as goal
use Rattle.partition_model.proofs.Passes.{one_pass_merges}

pub returns : goal.returns
returns c = one_pass_merges
