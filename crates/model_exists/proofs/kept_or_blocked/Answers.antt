use Rattle.model_exists.proofs.kept_or_blocked.Goals as goal
use Rattle.model_exists.proofs.Merges.{kept_or_blocked}

pub returns : goal.returns
returns c = kept_or_blocked
