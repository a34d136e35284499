use Rattle.std.proofs.Common.{◌≡◌, length, subst, arith}
use Rattle.partition_model.specs.Assignments.{events}
use Rattle.partition_graph.specs.Cells.{traces_of}
use Rattle.partition_graph.specs.Parts.{Parts}
use Rattle.partition_graph.proofs.CellTraces.{length-events}
use Rattle.partition_graph.proofs.graph.PartGraph.event_count.Goals as goal

pub returns : goal.returns
returns c =
    subst (λ (x : Parts). c.count.result ≡ length (events x.traces)) c.self.view_is
    (let e : length (events (traces_of c.self.inside.events)) ≡ length c.self.inside.events = length-events c.self.inside.events in omega (arith, e, c.count.ensures))
