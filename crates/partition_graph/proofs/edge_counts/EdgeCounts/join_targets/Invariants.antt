use Rattle.std.proofs.Common.{◌≤◌, ◌-◌}
use Rattle.limits.specs.declared.TheConstants.{MAX_PARTITIONS}
use Rattle.partition_graph.specs.Marks.{count_in}
use Rattle.partition_graph.proofs.Rows.{IsAdding}
use Rattle.partition_graph.proofs.edge_counts.EdgeCounts.join_targets.Given as goal

abbrev pub invariant-loop-to : goal.invariant-loop-to
invariant-loop-to l =
    record {
      reached : l.reached ≤ MAX_PARTITIONS;
      adding : IsAdding l.p l.q (count_in l.initial.self) (count_in l.self) l.reached;
    }

abbrev pub decreases-loop-to : goal.decreases-loop-to
decreases-loop-to l = MAX_PARTITIONS - l.reached
