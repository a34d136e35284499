use Rattle.partition_model.proofs.refinement.division_keeps.Goals as goal
use Rattle.partition_model.proofs.Splitting.{division_keeps}

pub returns : goal.returns
returns c = division_keeps
