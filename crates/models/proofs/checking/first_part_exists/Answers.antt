use Rattle.models.proofs.checking.first_part_exists.Goals as goal
use Rattle.models.proofs.PartsExist.{first_part_exists}

pub returns : goal.returns
returns c = first_part_exists
