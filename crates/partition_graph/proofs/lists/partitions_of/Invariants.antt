use Rattle.std.proofs.Common.{◌≡◌}
use Rattle.partition_model.specs.Assignments.{Assignment}
use Rattle.partition_model.specs.Listings.{partitions_below}
use Rattle.partition_graph.specs.Tables.{IsCountedFor}
use Rattle.partition_graph.proofs.lists.partitions_of.Given as goal

abbrev pub invariant-loop-p : goal.invariant-loop-p
invariant-loop-p l = (h : Assignment) → IsCountedFor l.tables l.trace_count h → l.list.items ≡ partitions_below l.p h
