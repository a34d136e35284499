use Rattle.model_exists.proofs.reached_or_not.Goals as goal
use Rattle.model_exists.proofs.Reaching.{reached_or_not}

pub returns : goal.returns
returns c = reached_or_not
