use Rattle.models.proofs.inferred.models_pass.Goals as goal
use Rattle.models.proofs.Valid.{models_pass}

pub returns : goal.returns
returns c = models_pass
