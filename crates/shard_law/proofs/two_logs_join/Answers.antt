use Rattle.shard_law.proofs.two_logs_join.Goals as goal
use Rattle.shard_law.proofs.Joining.{two_logs_join}

pub returns : goal.returns
returns c = two_logs_join
