use Rattle.refinement_end.proofs.refusals_tell.Goals as goal
use Rattle.refinement_end.proofs.WholeRuns.{refusals_tell}

pub returns : goal.returns
returns c = refusals_tell
