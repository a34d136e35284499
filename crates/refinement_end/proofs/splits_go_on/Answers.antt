use Rattle.refinement_end.proofs.splits_go_on.Goals as goal
use Rattle.refinement_end.proofs.WholeRuns.{splits_go_on}

pub returns : goal.returns
returns c = splits_go_on
