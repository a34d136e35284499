use Rattle.shard_law.proofs.lack_is_told.Goals as goal
use Rattle.shard_law.proofs.Numbering.{lack_is_told}

pub returns : goal.returns
returns c = lack_is_told
