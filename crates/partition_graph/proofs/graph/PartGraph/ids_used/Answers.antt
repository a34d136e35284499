use Rattle.partition_model.specs.Assignments.{G}
use Rattle.partition_graph.specs.Cells.{traces_of}
use Rattle.partition_graph.specs.Parts.{Parts, HasEdgesBelow}
use Rattle.partition_graph.proofs.UnusedIds.{edges_within}
use Rattle.std.proofs.Common.{subst}
use Rattle.partition_graph.proofs.graph.PartGraph.ids_used.Goals as goal

pub returns-clause-within : goal.returns-clause-within
returns-clause-within c =
    subst (λ (x : Parts). HasEdgesBelow (G x.traces) c.self.inside.used) c.self.view_is
    (edges_within (traces_of c.self.inside.events) c.self.inside.used c.self.invariant.two c.self.invariant.below)
