use Rattle.std.proofs.Common.{◌≡◌, subst, inl, inr}
use Rattle.partition_model.specs.Assignments.{edge_count}
use Rattle.partition_graph.specs.Cells.{traces_of}
use Rattle.partition_graph.specs.Parts.{Parts}
use Rattle.partition_graph.proofs.UnusedIds.{no_edge}
use Rattle.partition_graph.proofs.graph.PartGraph.edge_count.Goals as goal
use Rattle.partition_graph.proofs.graph.PartGraph.edge_count.Goals.{then-p-self-via-then-p-self, then-p-self-via-else-p-self+then-q-self}

pub returns-then-p-self : goal.returns-then-p-self
returns-then-p-self c =
    subst (λ (x : Parts). 0 ≡ edge_count x.traces c.args.p c.args.q) c.self.view_is
    (no_edge (traces_of c.self.inside.events) c.self.inside.used c.self.invariant.two c.self.invariant.below c.args.p c.args.q
    (elim c.then-p-self.branch [ then-p-self-via-then-p-self w ↦ inl w.if-p-self.true | then-p-self-via-else-p-self+then-q-self w ↦ inr w.if-q-self.true ]))
