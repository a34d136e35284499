use Rattle.std.proofs.Common.{◌<◌, sym, ◌∙◌, arith}
use Rattle.limits.specs.declared.TheConstants.{MAX_PARTITIONS}
use Rattle.partition_model.proofs.OneMore.{live_more, dead_more}
use Rattle.replay_check.proofs.graph.partitions_of.Goals as goal
use Rattle.replay_check.proofs.graph.partitions_of.Goals.{then-live-p+in_ok-push, else-live-p}

pub loop-p-preserved : goal.loop-p-preserved
loop-p-preserved c = λ h k s.
    elim c.if-live-p.branch [
      | then-live-p+in_ok-push w ↦
          let b : c.loop-p.p < MAX_PARTITIONS = omega (arith, c.loop-p-test.true, c.requires.live_size) in
          let live = sym (k.live_are c.loop-p.p b) ∙ w.if-live-p.true in
          live_more h c.loop-p.p _ _ c.loop-p.list.items c.if-live-p.list.items live (k.types_are c.loop-p.p live) (s c.loop-p.p b) (c.loop-p.invariant h k s) (rw w.list-is w.in_ok-push.ensures.items)
      | else-live-p w ↦
          let b : c.loop-p.p < MAX_PARTITIONS = omega (arith, c.loop-p-test.true, c.requires.live_size) in
          rw w.list-is (dead_more h c.loop-p.p c.loop-p.list.items (sym (k.live_are c.loop-p.p b) ∙ w.if-live-p.false) (c.loop-p.invariant h k s))
    ]
