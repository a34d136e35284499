use Rattle.partition_model.proofs.refinement.refinement_keeps.Goals as goal
use Rattle.partition_model.proofs.Keeping.{refinement_keeps}

pub returns : goal.returns
returns c = refinement_keeps
