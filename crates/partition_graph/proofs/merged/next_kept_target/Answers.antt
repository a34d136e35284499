use Rattle.std.proofs.Common.{rules}
use Rattle.partition_graph.proofs.merged.next_kept_target.Goals as goal

pub returns-clause-next : goal.returns-clause-next
returns-clause-next c = search rules
