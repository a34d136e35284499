use Rattle.models.proofs.checking.valid_satisfies.Goals as goal
use Rattle.models.proofs.Told.{valid_satisfies}

pub returns : goal.returns
returns c = valid_satisfies
