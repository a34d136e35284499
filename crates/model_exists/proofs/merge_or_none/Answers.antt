use Rattle.model_exists.proofs.merge_or_none.Goals as goal
use Rattle.model_exists.proofs.Merges.{merge_or_none}

pub returns : goal.returns
returns c = merge_or_none
