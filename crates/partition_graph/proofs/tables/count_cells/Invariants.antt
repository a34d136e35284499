use Rattle.partition_graph.specs.Sums.{sums}
use Rattle.partition_graph.proofs.Counting.{IsCounting}
use Rattle.partition_graph.proofs.tables.count_cells.Given as goal

abbrev pub invariant-loop-cell : goal.invariant-loop-cell
invariant-loop-cell l = IsCounting (sums l.initial.types l.initial.sizes l.initial.counts) (sums l.types l.sizes l.counts) l.before l.cell-index l.cells
