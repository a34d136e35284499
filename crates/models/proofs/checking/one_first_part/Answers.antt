use Rattle.models.proofs.checking.one_first_part.Goals as goal
use Rattle.models.proofs.FirstParts.{one_first_part}

pub returns : goal.returns
returns c = one_first_part
