use Rattle.partition_graph.specs.Marks.{is_counted}
use Rattle.partition_graph.proofs.Places.{places-none, none-to-past}
use Rattle.partition_graph.proofs.edge_counts.EdgeCounts.source_places.Goals as goal

pub returns-then-q-ge-MAX_PARTITIONS : goal.returns-then-q-ge-MAX_PARTITIONS
returns-then-q-ge-MAX_PARTITIONS c = places-none (λ p. is_counted c.args.self.now p c.args.q) (λ n. none-to-past c.args.self.now n c.args.q c.if-q-ge-MAX_PARTITIONS.true)
