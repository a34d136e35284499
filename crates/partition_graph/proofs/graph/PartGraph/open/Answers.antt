use Rattle.std.proofs.Common.{◌≡◌, ◌≤◌, ◌+◌, ℕ, IfOk, List, length, arith, ap, sym, subst}
use Rattle.std.proofs.lemmas.List.{length-map}
use Rattle.limits.specs.declared.TheConstants.{FIRST_TYPE, MAX_PARTITIONS}
use Rattle.traces.specs.Words.{Trace}
use Rattle.partition_model.specs.Assignments.{by_type}
use Rattle.partition_graph.specs.Cells.{traces_of}
use Rattle.partition_graph.specs.Kept.{IsKept}
use Rattle.partition_graph.specs.Parts.{inner_words_of, Parts}
use Rattle.partition_graph.proofs.Gathered.{gathered_ids, gathered_traces, kept, starts}
use Rattle.partition_graph.proofs.graph.PartGraph.open.Goals as goal

pub of_cells-requires-clause-ids : goal.of_cells-requires-clause-ids
of_cells-requires-clause-ids c =
    let log = c.args.traces.now in
    let types : length c.types.result.now ≡ length log.types = ap (λ (ts : List (List ℕ)). length ts) c.types.ensures.value in
    let few : length log.types + FIRST_TYPE ≤ MAX_PARTITIONS = omega (arith, types, c.types.ensures.few) in
    gathered_ids (length log.types + FIRST_TYPE) (length log.traces) (inner_words_of log) c.in_ok-cells.cells.items c.in_ok-cells.firsts.items few c.in_ok-cells.ensures.gathered

pub of_cells-requires-clause-kept : goal.of_cells-requires-clause-kept
of_cells-requires-clause-kept c tables counted =
    let log = c.args.traces.now in
    let types : length c.types.result.now ≡ length log.types = ap (λ (ts : List (List ℕ)). length ts) c.types.ensures.value in
    let used : length log.types + FIRST_TYPE ≡ c.len.result + FIRST_TYPE = omega (arith, types, c.len.ensures) in
    let few : length log.types + FIRST_TYPE ≤ MAX_PARTITIONS = omega (arith, types, c.types.ensures.few) in
    let words : length (inner_words_of log) ≡ length log.traces = length-map log.traces (λ (trace : Trace). trace.events) in
    subst (λ n. IsKept c.in_ok-cells.cells.items c.in_ok-cells.firsts.items tables n) used
    (kept (length log.types + FIRST_TYPE) (length log.traces) (inner_words_of log) c.in_ok-cells.cells.items c.in_ok-cells.firsts.items tables
    (sym words) c.in_ok-cells.ensures.gathered (omega arith) few c.in_ok-cells.ensures.few counted)

pub returns : goal.returns
returns c =
    let log = c.args.traces.now in
    let types : length c.types.result.now ≡ length log.types = ap (λ (ts : List (List ℕ)). length ts) c.types.ensures.value in
    let used : c.len.result + FIRST_TYPE ≡ length log.types + FIRST_TYPE = omega (arith, types, c.len.ensures) in
    let words : length (inner_words_of log) ≡ length log.traces = length-map log.traces (λ (trace : Trace). trace.events) in
    subst (λ (parts : Parts). IfOk c.of_cells.result (λ graph. graph ≡ parts))
    (starts (traces_of c.in_ok-cells.cells.items) (by_type (inner_words_of log)) (c.len.result + FIRST_TYPE) (length log.types + FIRST_TYPE)
    (gathered_traces (length log.types + FIRST_TYPE) (length log.traces) (inner_words_of log) c.in_ok-cells.cells.items c.in_ok-cells.firsts.items (sym words) c.in_ok-cells.ensures.gathered) used)
    c.of_cells.ensures
