use Rattle.model_exists.proofs.blocks_exist.Goals as goal
use Rattle.model_exists.proofs.Merges.{blocks_exist}

pub returns : goal.returns
returns c = blocks_exist
