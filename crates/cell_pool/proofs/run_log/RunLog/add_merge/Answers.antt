use Rattle.std.proofs.Common.{rules}
use Rattle.cell_pool.proofs.run_log.RunLog.add_merge.Goals as goal

pub returns : goal.returns
returns c = search rules
