use Rattle.std.proofs.Common.{◌∙◌, arith}
use Rattle.partition_model.proofs.OneMore.{edge_more, no_edge_more}
use Rattle.replay_check.proofs.graph.push_edges_from.Goals as goal
use Rattle.replay_check.proofs.graph.push_edges_from.Goals.{then-count-gt0+in_ok-push, else-count-gt0}

pub loop-q-preserved : goal.loop-q-preserved
loop-q-preserved c = λ h s.
    elim c.if-count-gt0.branch [
      | then-count-gt0+in_ok-push w ↦
          edge_more h c.args.p c.loop-q.q c.get-count.result c.args.list.now.items c.loop-q.list.items c.if-count-gt0.list.items w.if-count-gt0.true (c.get-count.ensures ∙ s c.args.p c.loop-q.q (omega (arith, c.loop-q-test.true, c.requires.bound, c.args.counts.now.most)))
          (c.loop-q.invariant h s) (rw w.list-is w.in_ok-push.ensures.items)
      | else-count-gt0 w ↦
          rw w.list-is
          (no_edge_more h c.args.p c.loop-q.q c.get-count.result c.args.list.now.items c.loop-q.list.items w.if-count-gt0.false (c.get-count.ensures ∙ s c.args.p c.loop-q.q (omega (arith, c.loop-q-test.true, c.requires.bound, c.args.counts.now.most))) (c.loop-q.invariant h s))
    ]
