use Rattle.partition_graph.specs.Shared.{picked, trace_cells}
use Rattle.partition_graph.proofs.Copied.{IsCopying}
use Rattle.partition_graph.proofs.cells.copy_traces.Given as goal

abbrev pub invariant-loop-number : goal.invariant-loop-number
invariant-loop-number l = IsCopying (picked l.numbers (trace_cells l.cells)) l.number-index l.copies.items l.begins.items
