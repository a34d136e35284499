use Rattle.std.proofs.Common.{◌≡◌, map, take}
use Rattle.partition_graph.specs.declared.cells.Cell.{Cell}
use Rattle.partition_graph.specs.Shared.{joined_traces, picked, trace_cells}
use Rattle.partition_graph.proofs.graph.listing.trace_ids.Given as goal

abbrev pub invariant-loop-number : goal.invariant-loop-number
invariant-loop-number l = l.ids.items ≡ map (λ (c : Cell). c.id) (joined_traces (take l.number-index (picked l.numbers (trace_cells l.cells))))
