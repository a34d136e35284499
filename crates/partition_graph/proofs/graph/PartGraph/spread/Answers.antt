use Rattle.std.proofs.Common.{◌≡◌, ◌<◌, ◌≤◌, ℕ, IfOk, List, length, All, ap, sym, ◌∙◌, subst}
use Rattle.limits.specs.declared.TheConstants.{MAX_EVENTS}
use Rattle.partition_model.specs.Assignments.{Assignment}
use Rattle.partition_graph.specs.declared.cells.Cell.{Cell}
use Rattle.partition_graph.specs.Cells.{traces_of}
use Rattle.partition_graph.specs.Counts.{HasId}
use Rattle.partition_graph.specs.Parts.{Parts}
use Rattle.partition_graph.specs.Shared.{Begin, joined_traces, picked, trace_cells}
use Rattle.partition_graph.specs.Spread.{spread}
use Rattle.partition_graph.proofs.Copied.{begins, copied_ids, copied_kept, copied_traces, copies-few, numbers_within}
use Rattle.partition_graph.proofs.Gathered.{starts}
use Rattle.partition_graph.proofs.Moving.{moved_ids}
use Rattle.partition_graph.proofs.graph.PartGraph.spread.Goals as goal
use Rattle.partition_graph.proofs.graph.PartGraph.spread.Goals.{After-deref}

-- the traces that the graph keeps as cells
held : (c : After-deref) → c.args.self.now.traces ≡ traces_of c.self.inside.events
held c = ap (λ (x : Parts). x.traces) (sym c.self.view_is)

within : (c : After-deref) → All (λ k. k < length (trace_cells c.self.inside.events)) c.args.numbers.now
within c = numbers_within c.self.inside.events c.args.numbers.now c.args.self.now.traces c.self.invariant.closed (held c) c.requires.within

few : (c : After-deref) → length (joined_traces (picked c.args.numbers.now (trace_cells c.self.inside.events))) ≤ MAX_EVENTS
few c = copies-few c.self.inside.events c.args.numbers.now c.args.self.now.traces c.self.invariant.closed (held c) (within c) c.requires.few

pub copy_traces-requires-clause-begin : goal.copy_traces-requires-clause-begin
copy_traces-requires-clause-begin c =
    let g = c.self.inside in
    subst (λ (cs : List Cell). Begin c.deref.result.now (trace_cells cs)) (sym c.cells.ensures)
    (subst (λ (firsts : List ℕ). Begin firsts (trace_cells g.events)) (sym c.deref.ensures.value) (begins g.events g.firsts.items g.tables g.used c.self.invariant))

pub copy_traces-requires-clause-within : goal.copy_traces-requires-clause-within
copy_traces-requires-clause-within c = subst (λ (cs : List Cell). All (λ k. k < length (trace_cells cs)) c.args.numbers.now) (sym c.cells.ensures) (within c)

pub copy_traces-requires-clause-few : goal.copy_traces-requires-clause-few
copy_traces-requires-clause-few c = subst (λ (cs : List Cell). length (joined_traces (picked c.args.numbers.now (trace_cells cs))) ≤ MAX_EVENTS) (sym c.cells.ensures) (few c)

pub of_cells-requires-clause-ids : goal.of_cells-requires-clause-ids
of_cells-requires-clause-ids c =
    let d : After-deref = (goal.at.of_cells-requires-clause-ids c).After-deref in
    let g = c.self.inside in
    let copies : c.in_ok-cells.cells.items ≡ joined_traces (picked c.args.numbers.now (trace_cells g.events)) =
    c.in_ok-cells.ensures.cells ∙ ap (λ (cs : List Cell). joined_traces (picked c.args.numbers.now (trace_cells cs))) c.cells.ensures in
    subst (λ (cs : List Cell). All HasId cs) (sym copies)
    (copied_ids g.events c.args.numbers.now (moved_ids g.used g.events c.self.invariant.limit c.self.invariant.below c.self.invariant.typed) (within d))

pub of_cells-requires-clause-few : goal.of_cells-requires-clause-few
of_cells-requires-clause-few c =
    let d : After-deref = (goal.at.of_cells-requires-clause-few c).After-deref in
    let copies : c.in_ok-cells.cells.items ≡ joined_traces (picked c.args.numbers.now (trace_cells c.self.inside.events)) =
    c.in_ok-cells.ensures.cells ∙ ap (λ (cs : List Cell). joined_traces (picked c.args.numbers.now (trace_cells cs))) c.cells.ensures in
    subst (λ (cs : List Cell). length cs ≤ MAX_EVENTS) (sym copies) (few d)

pub of_cells-requires-clause-kept : goal.of_cells-requires-clause-kept
of_cells-requires-clause-kept c tables counted =
    let d : After-deref = (goal.at.of_cells-requires-clause-kept c).After-deref in
    let g = c.self.inside in
    let copies : c.in_ok-cells.cells.items ≡ joined_traces (picked c.args.numbers.now (trace_cells g.events)) =
    c.in_ok-cells.ensures.cells ∙ ap (λ (cs : List Cell). joined_traces (picked c.args.numbers.now (trace_cells cs))) c.cells.ensures in
    let start : Begin c.in_ok-cells.firsts.items (picked c.args.numbers.now (trace_cells g.events)) =
    subst (λ (cs : List Cell). Begin c.in_ok-cells.firsts.items (picked c.args.numbers.now (trace_cells cs))) c.cells.ensures c.in_ok-cells.ensures.begin in
    copied_kept g.events g.firsts.items g.tables g.used c.args.numbers.now c.in_ok-cells.cells.items c.in_ok-cells.firsts.items tables c.self.invariant (within d) copies start
    (subst (λ (cs : List Cell). length cs ≤ MAX_EVENTS) (sym copies) (few d)) counted

pub returns : goal.returns
returns c =
    let d : After-deref = (goal.at.returns c).After-deref in
    let g = c.self.inside in
    let copies : c.in_ok-cells.cells.items ≡ joined_traces (picked c.args.numbers.now (trace_cells g.events)) =
    c.in_ok-cells.ensures.cells ∙ ap (λ (cs : List Cell). joined_traces (picked c.args.numbers.now (trace_cells cs))) c.cells.ensures in
    let used : g.used ≡ c.args.self.now.used = ap (λ (x : Parts). x.used) c.self.view_is in
    let t : traces_of c.in_ok-cells.cells.items ≡ spread c.args.numbers.now c.args.self.now.traces =
    ap (λ (cs : List Cell). traces_of cs) copies ∙ copied_traces g.events c.args.numbers.now c.self.invariant.closed (within d)
    ∙ ap (λ (h : Assignment). spread c.args.numbers.now h) (sym (held d)) in
    subst (λ (parts : Parts). IfOk c.of_cells.result (λ graph. graph ≡ parts))
    (starts (traces_of c.in_ok-cells.cells.items) (spread c.args.numbers.now c.args.self.now.traces) g.used c.args.self.now.used t used)
    c.of_cells.ensures
