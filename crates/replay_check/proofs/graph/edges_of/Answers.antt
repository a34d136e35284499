use Rattle.partition_model.proofs.OneMore.{edges_more}
use Rattle.replay_check.proofs.graph.edges_of.Goals as goal

pub loop-p-preserved : goal.loop-p-preserved
loop-p-preserved c = λ h s. edges_more h c.args.n c.loop-p.p c.loop-p.list.items c.push_edges_from.new.list.items (c.loop-p.invariant h s) (c.in_ok-push_edges_from.ensures h s)
