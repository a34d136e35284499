use Rattle.std.proofs.Common.{◌≡◌, ◌<◌, length, Some, subst, sym, arith}
use Rattle.std.specs.List.{slice_get}
use Rattle.std.proofs.lemmas.Option.{get_or_from_slice_get}
use Rattle.partition_model.specs.Assignments.{events}
use Rattle.partition_model.specs.Listings.{parts_of}
use Rattle.partition_graph.specs.Cells.{traces_of}
use Rattle.partition_graph.specs.Parts.{Parts}
use Rattle.partition_graph.proofs.CellTraces.{length-events, part_at}
use Rattle.partition_graph.proofs.graph.PartGraph.part_of.Goals as goal
use Rattle.partition_graph.proofs.graph.PartGraph.part_of.Goals.{After-cell}

pub cell-requires : goal.cell-requires
cell-requires c =
    let v = subst (λ (x : Parts). c.args.event < length (events x.traces)) (sym c.self.view_is) c.requires in
    let e : length (events (traces_of c.self.inside.events)) ≡ length c.self.inside.events = length-events c.self.inside.events in
    omega (arith, v, e)

there : (c : After-cell) → slice_get (parts_of c.args.self.now.traces) c.args.event ≡ Some c.cell.result.id
there c =
    subst (λ (x : Parts). slice_get (parts_of x.traces) c.args.event ≡ Some c.cell.result.id) c.self.view_is
    (part_at c.self.inside.events c.args.event c.cell.result c.cell.ensures)

pub returns-clause-there : goal.returns-clause-there
returns-clause-there c = there (goal.at.returns-clause-there c).After-cell

pub returns-clause-value : goal.returns-clause-value
returns-clause-value c = sym (get_or_from_slice_get (parts_of c.args.self.now.traces) c.args.event c.cell.result.id 0 (there (goal.at.returns-clause-value c).After-cell))
