use Rattle.models.proofs.inferred.models_are_shaped.Goals as goal
use Rattle.models.proofs.Shaped.{models_are_shaped}

pub returns : goal.returns
returns c = models_are_shaped
