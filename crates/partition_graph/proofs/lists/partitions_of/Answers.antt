use Rattle.std.proofs.Common.{◌++◌, ◌∷◌, [], sym, ◌∙◌, ap, refl}
use Rattle.invariants.specs.declared.records.Partition.{Partition}
use Rattle.partition_model.specs.Assignments.{size, type_of}
use Rattle.partition_model.proofs.OneMore.{live_more, dead_more}
use Rattle.partition_graph.proofs.lists.partitions_of.Goals as goal
use Rattle.partition_graph.proofs.lists.partitions_of.Goals.{then-is_live+in_ok-push, else-is_live}

pub loop-p-preserved : goal.loop-p-preserved
loop-p-preserved c = λ h counted.
    elim c.if-is_live.branch [
      | then-is_live+in_ok-push w ↦
          live_more h c.loop-p.p (type_of h c.loop-p.p) (size h c.loop-p.p) c.loop-p.list.items c.if-is_live.list.items (sym (c.is_live.ensures h c.args.trace_count counted) ∙ w.if-is_live.true) refl refl
          (c.loop-p.invariant h counted)
          (rw w.list-is (w.in_ok-push.ensures.items ∙ ap (λ (x : Partition). c.loop-p.list.items ++ x ∷ []) (w.partition_at.ensures h counted)))
      | else-is_live w ↦ rw w.list-is (dead_more h c.loop-p.p c.loop-p.list.items (sym (c.is_live.ensures h c.args.trace_count counted) ∙ w.if-is_live.false) (c.loop-p.invariant h counted))
    ]
