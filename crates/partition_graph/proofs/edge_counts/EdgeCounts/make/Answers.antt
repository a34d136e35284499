use Rattle.std.proofs.Common.{ap, ℕ, List, get_or}
use Rattle.partition_graph.proofs.Marking.{new_marked}
use Rattle.partition_graph.proofs.edge_counts.EdgeCounts.make.Goals as goal

pub invariant_of-result : goal.invariant_of-result
invariant_of-result c = (
  c.in_ok-counts.ensures.capacity,
  new_marked c.in_ok-counts.counts.items c.in_ok-sources.sources c.in_ok-targets.targets (λ k. ap (λ (xs : List ℕ). get_or xs k 0) c.in_ok-counts.ensures.items)
      c.in_ok-sources.ensures.rows c.in_ok-sources.ensures.shape c.in_ok-targets.ensures.rows c.in_ok-targets.ensures.shape,
)
