use Rattle.shard_law.proofs.reports_join.Goals as goal
use Rattle.shard_law.proofs.Numbering.{reports_join}

pub returns : goal.returns
returns c = reports_join
