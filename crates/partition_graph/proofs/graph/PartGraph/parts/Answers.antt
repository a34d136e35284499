use Rattle.std.proofs.Common.{List, map, ap, sym, ◌∙◌}
use Rattle.std.proofs.lemmas.Result.{IfOk-weaker}
use Rattle.partition_model.specs.Listings.{parts_of}
use Rattle.partition_graph.specs.declared.cells.Cell.{Cell}
use Rattle.partition_graph.specs.Parts.{Parts}
use Rattle.partition_graph.proofs.CellTraces.{parts_are}
use Rattle.partition_graph.proofs.graph.PartGraph.parts.Goals as goal

pub returns : goal.returns
returns c =
    IfOk-weaker c.ids_of.result _ _
    (λ ids e. e ∙ ap (λ (cs : List Cell). map (λ (x : Cell). x.id) cs) c.cells.ensures ∙ sym (parts_are c.self.inside.events)
    ∙ ap (λ (x : Parts). parts_of x.traces) c.self.view_is)
    c.ids_of.ensures
