use Rattle.models.proofs.inferred.shaped_are_formed.Goals as goal
use Rattle.models.proofs.Formed.{shaped_are_formed}

pub returns : goal.returns
returns c = shaped_are_formed
