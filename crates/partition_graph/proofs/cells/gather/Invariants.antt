use Rattle.std.proofs.Common.{◌+◌, length}
use Rattle.partition_graph.specs.Cells.{IsGathered}
use Rattle.partition_graph.specs.Parts.{inner_words_of}
use Rattle.partition_graph.proofs.cells.gather.Given as goal

abbrev pub invariant-loop-t : goal.invariant-loop-t
invariant-loop-t l = IsGathered (length l.traces.types + 2) (inner_words_of l.traces) l.t l.cells.items l.firsts.items
