use Rattle.refinement_end.proofs.least_exists.Goals as goal
use Rattle.refinement_end.proofs.Violations.{least_exists}

pub returns : goal.returns
returns c = least_exists
