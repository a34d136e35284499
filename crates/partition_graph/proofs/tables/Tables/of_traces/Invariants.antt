use Rattle.std.proofs.Common.{take}
use Rattle.partition_graph.specs.Shared.{joined_traces, picked, trace_cells}
use Rattle.partition_graph.specs.Tables.{IsCountOf}
use Rattle.partition_graph.proofs.tables.Tables.of_traces.Given as goal

abbrev pub invariant-loop-number : goal.invariant-loop-number
invariant-loop-number l = IsCountOf l.tables (joined_traces (picked (take l.number-index l.numbers) (trace_cells l.cells)))
