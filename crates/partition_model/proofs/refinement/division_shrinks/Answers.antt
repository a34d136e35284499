use Rattle.partition_model.proofs.refinement.division_shrinks.Goals as goal
use Rattle.partition_model.proofs.Splitting.{division_shrinks}

pub returns : goal.returns
returns c = division_shrinks
