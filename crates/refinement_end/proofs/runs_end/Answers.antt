use Rattle.refinement_end.proofs.runs_end.Goals as goal
use Rattle.refinement_end.proofs.WholeRuns.{runs_end}

pub returns : goal.returns
returns c = runs_end
