use Rattle.std.proofs.Common.{arith}
use Rattle.partition_graph.proofs.WordCells.{traces-le}
use Rattle.partition_graph.proofs.graph.PartGraph.trace_count.Goals as goal

pub overflow_cast-result : goal.overflow_cast-result
overflow_cast-result c = omega (arith, traces-le c.self.inside.events, c.self.invariant.first_count, c.self.invariant.few, c.len.ensures)
