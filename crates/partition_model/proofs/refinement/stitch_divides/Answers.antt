use Rattle.partition_model.proofs.refinement.stitch_divides.Goals as goal
use Rattle.partition_model.proofs.Stitching.{stitch_divides}

pub returns : goal.returns
returns c = stitch_divides
