use Rattle.std.proofs.Common.{rules}
use Rattle.partition_graph.proofs.links.Links.gather.Goals as goal

pub loop-from-init : goal.loop-from-init
loop-from-init c = search rules
