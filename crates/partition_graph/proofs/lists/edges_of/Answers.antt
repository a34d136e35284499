use Rattle.partition_model.proofs.OneMore.{edges_more}
use Rattle.partition_graph.proofs.lists.edges_of.Goals as goal

pub loop-p-preserved : goal.loop-p-preserved
loop-p-preserved c = λ h n counted.
    edges_more h c.args.used c.loop-p.p c.loop-p.list.items c.push_edges_from.new.list.items (c.loop-p.invariant h n counted) (c.in_ok-push_edges_from.ensures h n counted)
