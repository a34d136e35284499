use Rattle.refinement_end.proofs.refinement_ends.Goals as goal
use Rattle.refinement_end.proofs.WholeRuns.{refinement_ends}

pub returns : goal.returns
returns c = refinement_ends
