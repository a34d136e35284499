use Rattle.partition_graph.specs.Marks.{count_in}
use Rattle.partition_graph.proofs.Rows.{targets-fit}
use Rattle.partition_graph.proofs.edge_counts.EdgeCounts.join.Goals as goal

pub join_targets-requires-clause-few : goal.join_targets-requires-clause-few
join_targets-requires-clause-few c = targets-fit c.args.p c.args.q (count_in c.args.self.now) c.requires.apart c.requires.to c.requires.few
