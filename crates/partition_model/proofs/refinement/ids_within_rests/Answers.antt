use Rattle.partition_model.proofs.refinement.ids_within_rests.Goals as goal
use Rattle.partition_model.proofs.Runs.{ids_within_rests}

pub returns : goal.returns
returns c = ids_within_rests
