use Rattle.shard_law.proofs.shards_join.Goals as goal
use Rattle.shard_law.proofs.Joining.{shards_join}

pub returns : goal.returns
returns c = shards_join
