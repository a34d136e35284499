use Rattle.partition_graph.specs.Cells.{cells_of}
use Rattle.partition_graph.specs.Sums.{sums}
use Rattle.partition_graph.proofs.Counting.{IsCounting}
use Rattle.partition_graph.proofs.tables.count_events.Given as goal

abbrev pub invariant-loop-i : goal.invariant-loop-i
invariant-loop-i l = IsCounting (sums l.initial.types l.initial.sizes l.initial.counts) (sums l.types l.sizes l.counts) l.before l.i (cells_of l.word)
