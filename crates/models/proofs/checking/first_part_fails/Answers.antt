use Rattle.models.proofs.checking.first_part_fails.Goals as goal
use Rattle.models.proofs.FirstParts.{first_part_fails}

pub returns : goal.returns
returns c = first_part_fails
