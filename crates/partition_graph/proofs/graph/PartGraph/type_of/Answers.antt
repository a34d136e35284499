use Rattle.std.proofs.Common.{◌≡◌, subst}
use Rattle.partition_model.specs.Assignments.{type_of}
use Rattle.partition_graph.specs.Cells.{traces_of}
use Rattle.partition_graph.specs.Parts.{Parts}
use Rattle.partition_graph.proofs.UnusedIds.{no_type_of}
use Rattle.partition_graph.proofs.graph.PartGraph.type_of.Goals as goal

pub returns-then-p-self : goal.returns-then-p-self
returns-then-p-self c =
    subst (λ (x : Parts). 0 ≡ type_of x.traces c.args.p) c.self.view_is
    (no_type_of (traces_of c.self.inside.events) c.self.inside.used c.self.invariant.below c.args.p c.if-p-lt-FIRST_TYPE.false c.if-p-self.true)
