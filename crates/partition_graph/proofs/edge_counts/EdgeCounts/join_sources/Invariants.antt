use Rattle.std.proofs.Common.{◌≤◌, ◌-◌}
use Rattle.limits.specs.declared.TheConstants.{MAX_PARTITIONS}
use Rattle.partition_graph.specs.Marks.{count_in}
use Rattle.partition_graph.proofs.Rows.{IsAdding}
use Rattle.partition_graph.proofs.edge_counts.EdgeCounts.join_sources.Given as goal

abbrev pub invariant-loop-from : goal.invariant-loop-from
invariant-loop-from l =
    record {
      reached : l.reached ≤ MAX_PARTITIONS;
      adding : IsAdding l.p l.q (λ a b. count_in l.initial.self b a) (λ a b. count_in l.self b a) l.reached;
    }

abbrev pub decreases-loop-from : goal.decreases-loop-from
decreases-loop-from l = MAX_PARTITIONS - l.reached
