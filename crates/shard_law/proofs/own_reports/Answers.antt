use Rattle.shard_law.proofs.own_reports.Goals as goal
use Rattle.shard_law.proofs.Numbering.{own_reports}

pub returns : goal.returns
returns c = own_reports
