use Rattle.shard_law.proofs.types_tell.Goals as goal
use Rattle.shard_law.proofs.Numbering.{types_tell}

pub returns : goal.returns
returns c = types_tell
