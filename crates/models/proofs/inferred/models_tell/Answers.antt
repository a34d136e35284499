use Rattle.models.proofs.inferred.models_tell.Goals as goal
use Rattle.models.proofs.Told.{models_tell}

pub returns : goal.returns
returns c = models_tell
