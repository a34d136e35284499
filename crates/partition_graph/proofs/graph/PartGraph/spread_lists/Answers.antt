use Rattle.std.proofs.Common.{◌≡◌, ◌<◌, ◌≤◌, true, ℕ, IfOk, List, [], get_or, length, All, arith, ap, refl, sym, subst}
use Rattle.std.proofs.lemmas.List.{length-map}
use Rattle.std.proofs.lemmas.Result.{IfOk-weaker}
use Rattle.limits.specs.declared.TheConstants.{MAX_EVENTS}
use Rattle.partition_model.specs.Assignments.{Assignment}
use Rattle.partition_model.specs.Listings.{edges_below, partitions_below, AreBelow}
use Rattle.partition_graph.specs.declared.cells.Cell.{Cell}
use Rattle.partition_graph.specs.Cells.{traces_of, IsClosed}
use Rattle.partition_graph.specs.Counts.{HasId}
use Rattle.partition_graph.specs.Parts.{Parts}
use Rattle.partition_graph.specs.Shared.{Begin, joined_traces, picked, trace_cells}
use Rattle.partition_graph.specs.Spread.{spread}
use Rattle.partition_graph.specs.Tables.{IsCountOf, IsCountedFor}
use Rattle.partition_graph.proofs.CountedTraces.{copies_below, copies_counted}
use Rattle.partition_graph.proofs.Copied.{begins, copied_traces, copies-few, numbers_within}
use Rattle.partition_graph.proofs.Moving.{moved_ids}
use Rattle.partition_graph.proofs.WordCells.{traces-le}
use Rattle.partition_graph.proofs.graph.PartGraph.spread_lists.Goals as goal
use Rattle.partition_graph.proofs.graph.PartGraph.spread_lists.Goals.{After-deref, After-drop}

-- the traces that the graph keeps as cells
held : (c : After-deref) → c.args.self.now.traces ≡ traces_of c.self.inside.events
held c = ap (λ (x : Parts). x.traces) (sym c.self.view_is)

within : (c : After-deref) → All (λ k. k < length (trace_cells c.self.inside.events)) c.args.numbers.now
within c = numbers_within c.self.inside.events c.args.numbers.now c.args.self.now.traces c.self.invariant.closed (held c) c.requires.within

few : (c : After-deref) → length (joined_traces (picked c.args.numbers.now (trace_cells c.self.inside.events))) ≤ MAX_EVENTS
few c = copies-few c.self.inside.events c.args.numbers.now c.args.self.now.traces c.self.invariant.closed (held c) (within c) c.requires.few

pub of_traces-requires-clause-ids : goal.of_traces-requires-clause-ids
of_traces-requires-clause-ids c =
    let g = c.self.inside in
    subst (λ (cs : List Cell). All HasId cs) (sym c.cells-cells.ensures) (moved_ids g.used g.events c.self.invariant.limit c.self.invariant.below c.self.invariant.typed)

pub of_traces-requires-clause-closed : goal.of_traces-requires-clause-closed
of_traces-requires-clause-closed c = subst (λ (cs : List Cell). IsClosed true cs) (sym c.cells-cells.ensures) c.self.invariant.closed

pub of_traces-requires-clause-begin : goal.of_traces-requires-clause-begin
of_traces-requires-clause-begin c =
    let g = c.self.inside in
    subst (λ (cs : List Cell). Begin c.deref.result.now (trace_cells cs)) (sym c.cells-cells.ensures)
    (subst (λ (firsts : List ℕ). Begin firsts (trace_cells g.events)) (sym c.deref.ensures.value) (begins g.events g.firsts.items g.tables g.used c.self.invariant))

pub of_traces-requires-clause-within : goal.of_traces-requires-clause-within
of_traces-requires-clause-within c = subst (λ (cs : List Cell). All (λ k. k < length (trace_cells cs)) c.args.numbers.now) (sym c.cells-cells.ensures) (within c)

pub of_traces-requires-clause-few : goal.of_traces-requires-clause-few
of_traces-requires-clause-few c = subst (λ (cs : List Cell). length (joined_traces (picked c.args.numbers.now (trace_cells cs))) ≤ MAX_EVENTS) (sym c.cells-cells.ensures) (few c)

pub overflow_cast-numbers : goal.overflow_cast-numbers
overflow_cast-numbers c =
    let d : After-deref = (goal.at.overflow_cast-numbers c).After-deref in
    let events : List Cell = c.self.inside.events in
    let copies : List Cell = joined_traces (picked c.args.numbers.now (trace_cells events)) in
    let m : length (traces_of copies) ≡ length (spread c.args.numbers.now (traces_of events)) = ap (λ (h : Assignment). length h) (copied_traces events c.args.numbers.now c.self.invariant.closed (within d)) in
    let n : length (spread c.args.numbers.now (traces_of events)) ≡ length c.args.numbers.now = length-map c.args.numbers.now (λ j. get_or (traces_of events) j []) in
    omega (arith, m, n, traces-le copies, few d)

-- what is counted is that of the spread traces
counted : (c : After-drop) → IsCountedFor c.in_ok-tables.tables (length c.args.numbers.now) (spread c.args.numbers.now c.args.self.now.traces)
counted c =
    let d : After-deref = (goal.at.returns-clause-partitions c).After-deref in
    let g = c.self.inside in
    let is : IsCountOf c.in_ok-tables.tables (joined_traces (picked c.args.numbers.now (trace_cells g.events))) =
    subst (λ (cs : List Cell). IsCountOf c.in_ok-tables.tables (joined_traces (picked c.args.numbers.now (trace_cells cs)))) c.cells-cells.ensures c.in_ok-tables.ensures in
    subst (λ (h : Assignment). IsCountedFor c.in_ok-tables.tables (length c.args.numbers.now) (spread c.args.numbers.now h)) (sym (held d))
    (copies_counted g.events g.firsts.items g.tables g.used c.args.numbers.now c.in_ok-tables.tables (length c.args.numbers.now) c.self.invariant (within d) refl is)

used : (c : After-drop) → c.self.inside.used ≡ c.args.self.now.used
used c = ap (λ (x : Parts). x.used) c.self.view_is

pub returns-clause-partitions : goal.returns-clause-partitions
returns-clause-partitions c =
    let h : Assignment = spread c.args.numbers.now c.args.self.now.traces in
    subst (λ n. IfOk c.lists_of-lists.result (λ pair. pair.0 ≡ partitions_below n h)) (used c) (c.lists_of-lists.ensures.partitions h (counted c))

pub returns-clause-edges : goal.returns-clause-edges
returns-clause-edges c =
    let h : Assignment = spread c.args.numbers.now c.args.self.now.traces in
    subst (λ n. IfOk c.lists_of-lists.result (λ pair. pair.1 ≡ edges_below n h)) (used c) (c.lists_of-lists.ensures.edges h (counted c))

pub returns-clause-below : goal.returns-clause-below
returns-clause-below c =
    let d : After-deref = (goal.at.returns-clause-below c).After-deref in
    let g = c.self.inside in
    let h : Assignment = spread c.args.numbers.now c.args.self.now.traces in
    let below : AreBelow c.args.self.now.used h =
    subst (λ n. AreBelow n h) (used c)
    (subst (λ (x : Assignment). AreBelow g.used (spread c.args.numbers.now x)) (sym (held d)) (copies_below g.events g.firsts.items g.tables g.used c.args.numbers.now c.self.invariant (within d))) in
    IfOk-weaker c.lists_of-lists.result _ _ (λ pair t. below) (c.lists_of-lists.ensures.partitions h (counted c))
