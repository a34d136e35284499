use Rattle.models.proofs.replaying.first_step_exists.Goals as goal
use Rattle.models.proofs.FirstSteps.{first_step_exists}

pub returns : goal.returns
returns c = first_step_exists
