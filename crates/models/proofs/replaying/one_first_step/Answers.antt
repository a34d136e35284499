use Rattle.models.proofs.replaying.one_first_step.Goals as goal
use Rattle.models.proofs.FirstSteps.{one_first_step}

pub returns : goal.returns
returns c = one_first_step
