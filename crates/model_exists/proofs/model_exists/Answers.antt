use Rattle.model_exists.proofs.model_exists.Goals as goal
use Rattle.model_exists.proofs.Models.{model_exists}

pub returns : goal.returns
returns c = model_exists
