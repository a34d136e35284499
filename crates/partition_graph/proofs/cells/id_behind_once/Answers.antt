use Rattle.std.proofs.Common.{rules}
use Rattle.partition_graph.proofs.cells.id_behind_once.Goals as goal

pub returns-then-behind-n : goal.returns-then-behind-n
returns-then-behind-n c = search rules
