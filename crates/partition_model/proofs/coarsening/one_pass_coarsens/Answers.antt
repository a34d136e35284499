use Rattle.partition_model.proofs.coarsening.one_pass_coarsens.Goals as goal
use Rattle.partition_model.proofs.Passes.{one_pass_coarsens}

pub returns : goal.returns
returns c = one_pass_coarsens
