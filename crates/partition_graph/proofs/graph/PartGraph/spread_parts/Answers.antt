use Rattle.std.proofs.Common.{◌≡◌, ◌<◌, ℕ, List, length, map, All, ap, sym, ◌∙◌, subst}
use Rattle.std.proofs.lemmas.Result.{IfOk-weaker}
use Rattle.partition_model.specs.Assignments.{Assignment}
use Rattle.partition_model.specs.Listings.{parts_of}
use Rattle.partition_graph.specs.declared.cells.Cell.{Cell}
use Rattle.partition_graph.specs.Cells.{traces_of}
use Rattle.partition_graph.specs.Parts.{Parts}
use Rattle.partition_graph.specs.Shared.{Begin, joined_traces, picked, trace_cells}
use Rattle.partition_graph.specs.Spread.{spread}
use Rattle.partition_graph.proofs.CellTraces.{parts_are}
use Rattle.partition_graph.proofs.Copied.{begins, copied_traces, numbers_within}
use Rattle.partition_graph.proofs.graph.PartGraph.spread_parts.Goals as goal
use Rattle.partition_graph.proofs.graph.PartGraph.spread_parts.Goals.{After-deref}

-- the traces that the graph keeps as cells
held : (c : After-deref) → c.args.self.now.traces ≡ traces_of c.self.inside.events
held c = ap (λ (x : Parts). x.traces) (sym c.self.view_is)

within : (c : After-deref) → All (λ k. k < length (trace_cells c.self.inside.events)) c.args.numbers.now
within c = numbers_within c.self.inside.events c.args.numbers.now c.args.self.now.traces c.self.invariant.closed (held c) c.requires.within

pub trace_ids-requires-clause-begin : goal.trace_ids-requires-clause-begin
trace_ids-requires-clause-begin c =
    let g = c.self.inside in
    subst (λ (cs : List Cell). Begin c.deref.result.now (trace_cells cs)) (sym c.cells.ensures)
    (subst (λ (firsts : List ℕ). Begin firsts (trace_cells g.events)) (sym c.deref.ensures.value) (begins g.events g.firsts.items g.tables g.used c.self.invariant))

pub trace_ids-requires-clause-within : goal.trace_ids-requires-clause-within
trace_ids-requires-clause-within c = subst (λ (cs : List Cell). All (λ k. k < length (trace_cells cs)) c.args.numbers.now) (sym c.cells.ensures) (within c)

pub returns : goal.returns
returns c =
    let d : After-deref = (goal.at.returns c).After-deref in
    let numbers : List ℕ = c.args.numbers.now in
    let events : List Cell = c.self.inside.events in
    let told : parts_of (traces_of (joined_traces (picked numbers (trace_cells events)))) ≡ parts_of (spread numbers c.args.self.now.traces) =
    ap (λ (h : Assignment). parts_of h) (copied_traces events numbers c.self.invariant.closed (within d))
    ∙ ap (λ (h : Assignment). parts_of (spread numbers h)) (sym (held d)) in
    IfOk-weaker c.trace_ids.result _ _
    (λ ids e. e ∙ ap (λ (cs : List Cell). map (λ (x : Cell). x.id) (joined_traces (picked numbers (trace_cells cs)))) c.cells.ensures ∙ sym (parts_are (joined_traces (picked numbers (trace_cells events)))) ∙ told)
    c.trace_ids.ensures
