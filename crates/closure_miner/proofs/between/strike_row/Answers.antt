use Rattle.std.proofs.Common.{rules}
use Rattle.closure_miner.proofs.between.strike_row.Goals as goal

pub loop-b-preserved : goal.loop-b-preserved
loop-b-preserved c = search rules
