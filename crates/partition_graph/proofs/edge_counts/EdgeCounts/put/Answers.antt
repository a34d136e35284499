use Rattle.std.proofs.Common.{ltb, arith, refl}
use Rattle.partition_graph.proofs.SetCounts.{put_counts, set_marked}
use Rattle.partition_graph.proofs.edge_counts.EdgeCounts.put.Goals as goal

pub returns : goal.returns
returns c = put_counts c.args.self.now c.self.inside.counts.items c.reach.new.counts.items c.args.from c.args.to c.args.count c.requires.from c.self.view_is c.reach.ensures.reached c.reach.ensures.same

pub invariant_of-self : goal.invariant_of-self
invariant_of-self c = (
  omega (arith, c.reach.ensures.capacity, c.self.invariant.0),
  set_marked c.self.inside.counts.items c.reach.new.counts.items c.self.inside.sources c.self.inside.targets c.put_marks.new.sources c.put_marks.new.targets c.args.from c.args.to c.args.count (ltb 0 c.args.count) c.requires.from c.reach.ensures.reached c.reach.ensures.same refl c.self.invariant.1 c.put_marks.ensures.sources c.put_marks.ensures.targets,
)
