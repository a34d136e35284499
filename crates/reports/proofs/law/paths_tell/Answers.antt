use Rattle.reports.proofs.Counted.{tell}
use Rattle.reports.proofs.law.paths_tell.Goals as goal

pub returns : goal.returns
returns c = tell
