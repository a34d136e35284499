use Rattle.models.proofs.inferred.one_model.Goals as goal
use Rattle.models.proofs.Unique.{one_model}

pub returns : goal.returns
returns c = one_model
