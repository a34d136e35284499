use Rattle.limits.specs.declared.TheConstants.{MAX_PARTITIONS}
use Rattle.replay_check.proofs.Marking.{blank-rows}
use Rattle.replay_check.proofs.edges.EdgeRows.make.Goals as goal

pub returns : goal.returns
returns c = blank-rows MAX_PARTITIONS c.in_ok-rows.rows c.in_ok-rows.ensures.rows
