use Rattle.model_exists.proofs.models_are_small.Goals as goal
use Rattle.model_exists.proofs.Small.{models_are_small}

pub returns : goal.returns
returns c = models_are_small
