use Rattle.std.proofs.Common.{◌-◌, ltb, arith, refl}
use Rattle.partition_graph.proofs.SetCounts.{remove_counts, set_marked}
use Rattle.partition_graph.proofs.edge_counts.EdgeCounts.remove.Goals as goal

pub returns : goal.returns
returns c = remove_counts c.args.self.now c.self.inside.counts.items c.reach.new.counts.items c.args.from c.args.to c.index.result.now c.requires.from c.self.view_is c.reach.ensures.reached c.reach.ensures.same c.index.ensures c.requires.some

pub invariant_of-self : goal.invariant_of-self
invariant_of-self c = (
  omega (arith, c.reach.ensures.capacity, c.self.invariant.0),
  set_marked c.self.inside.counts.items c.reach.new.counts.items c.self.inside.sources c.self.inside.targets c.unmark.new.sources c.unmark.new.targets c.args.from c.args.to (c.index.result.now - 1) (ltb 0 (c.index.result.now - 1)) c.requires.from c.reach.ensures.reached c.reach.ensures.same refl c.self.invariant.1 c.unmark.ensures.sources c.unmark.ensures.targets,
)
