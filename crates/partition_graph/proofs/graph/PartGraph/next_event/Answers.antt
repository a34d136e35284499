use Rattle.std.proofs.Common.{◌≡◌, ◌<◌, length, true, subst, sym, refl, arith}
use Rattle.partition_model.specs.Assignments.{events}
use Rattle.partition_model.specs.Listings.{IsLast}
use Rattle.partition_graph.specs.Cells.{traces_of}
use Rattle.partition_graph.specs.Parts.{Parts}
use Rattle.partition_graph.proofs.CellTraces.{length-events}
use Rattle.partition_graph.proofs.Lasts.{marked_is_last, unmarked_is_not}
use Rattle.partition_graph.proofs.graph.PartGraph.next_event.Goals as goal

pub cell-requires : goal.cell-requires
cell-requires c =
    let v = subst (λ (x : Parts). c.args.event < length (events x.traces)) (sym c.self.view_is) c.requires in
    let e : length (events (traces_of c.self.inside.events)) ≡ length c.self.inside.events = length-events c.self.inside.events in
    omega (arith, v, e)

pub overflow_add-result : goal.overflow_add-result
overflow_add-result c =
    let v = subst (λ (x : Parts). c.args.event < length (events x.traces)) (sym c.self.view_is) c.requires in
    let e : length (events (traces_of c.self.inside.events)) ≡ length c.self.inside.events = length-events c.self.inside.events in
    omega (arith, v, e, c.self.invariant.few)

pub returns-then-cell : goal.returns-then-cell
returns-then-cell c =
    subst (λ (x : Parts). IsLast x.traces c.args.event) c.self.view_is (marked_is_last c.self.inside.events c.args.event c.cell.result c.cell.ensures c.if-cell.true)

pub returns : goal.returns
returns c =
    (refl, λ i. unmarked_is_not true c.self.inside.events c.self.invariant.closed c.args.event c.cell.result c.cell.ensures c.if-cell.false (subst (λ (x : Parts). IsLast x.traces c.args.event) (sym c.self.view_is) i))
