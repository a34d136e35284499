use Rattle.refinement_end.proofs.stops_tell.Goals as goal
use Rattle.refinement_end.proofs.WholeRuns.{stops_tell}

pub returns : goal.returns
returns c = stops_tell
