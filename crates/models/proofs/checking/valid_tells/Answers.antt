use Rattle.models.proofs.checking.valid_tells.Goals as goal
use Rattle.models.proofs.Told.{valid_tells}

pub returns : goal.returns
returns c = valid_tells
