use Rattle.partition_model.proofs.refinement.stitch_is_last.Goals as goal
use Rattle.partition_model.proofs.Longest.{stitch_is_last}

pub returns : goal.returns
returns c = stitch_is_last
