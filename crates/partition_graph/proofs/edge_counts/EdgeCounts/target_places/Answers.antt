use Rattle.partition_graph.specs.Marks.{is_counted}
use Rattle.partition_graph.proofs.Places.{places-none, none-from-past}
use Rattle.partition_graph.proofs.edge_counts.EdgeCounts.target_places.Goals as goal

pub returns-then-p-ge-MAX_PARTITIONS : goal.returns-then-p-ge-MAX_PARTITIONS
returns-then-p-ge-MAX_PARTITIONS c = places-none (λ q. is_counted c.args.self.now c.args.p q) (λ n. none-from-past c.args.self.now c.args.p n c.if-p-ge-MAX_PARTITIONS.true)
