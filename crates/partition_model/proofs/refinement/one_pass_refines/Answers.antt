use Rattle.partition_model.proofs.refinement.one_pass_refines.Goals as goal
use Rattle.partition_model.proofs.OnePass.{one_pass_refines}

pub returns : goal.returns
returns c = one_pass_refines
