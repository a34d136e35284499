use Rattle.std.proofs.Common.{◌≡◌, ◌≤◌, ◌+◌, ℕ, List, length, arith, ap, subst, refl, ◌∙◌}
use Rattle.limits.specs.declared.TheConstants.{FIRST_TYPE, MAX_PARTITIONS}
use Rattle.partition_graph.specs.declared.cells.Cell.{Cell}
use Rattle.partition_graph.specs.Kept.{IsKept}
use Rattle.partition_graph.specs.Parts.{Parts}
use Rattle.partition_graph.proofs.Gathered.{gathered_ids, gathered_traces, kept}
use Rattle.partition_graph.proofs.Sharing.{shares}
use Rattle.partition_graph.proofs.graph.PartGraph.open_shared.Goals as goal

pub of_cells-requires-clause-ids : goal.of_cells-requires-clause-ids
of_cells-requires-clause-ids c =
    let log = c.args.traces.now in
    let types : length c.types.result.now ≡ length log.types = ap (λ (ts : List (List ℕ)). length ts) c.types.ensures.value in
    let few : length log.types + FIRST_TYPE ≤ MAX_PARTITIONS = omega (arith, types, c.types.ensures.few) in
    let words : List (List ℕ) = c.in_ok-shared.ensures.shared.0 in
    gathered_ids (length log.types + FIRST_TYPE) (length words) words c.in_ok-shared.shared.cells.items c.in_ok-shared.shared.firsts.items few c.in_ok-shared.ensures.shared.1.gathered

pub of_cells-requires-clause-kept : goal.of_cells-requires-clause-kept
of_cells-requires-clause-kept c tables counted =
    let log = c.args.traces.now in
    let cells : List Cell = c.in_ok-shared.shared.cells.items in
    let firsts : List ℕ = c.in_ok-shared.shared.firsts.items in
    let words : List (List ℕ) = c.in_ok-shared.ensures.shared.0 in
    let types : length c.types.result.now ≡ length log.types = ap (λ (ts : List (List ℕ)). length ts) c.types.ensures.value in
    let used : length log.types + FIRST_TYPE ≡ c.len.result + FIRST_TYPE = omega (arith, types, c.len.ensures) in
    let few : length log.types + FIRST_TYPE ≤ MAX_PARTITIONS = omega (arith, types, c.types.ensures.few) in
    subst (λ n. IsKept cells firsts tables n) used
    (kept (length log.types + FIRST_TYPE) (length words) words cells firsts tables
    refl c.in_ok-shared.ensures.shared.1.gathered (omega arith) few c.in_ok-shared.ensures.few counted)

pub returns : goal.returns
returns c =
    let log = c.args.traces.now in
    let cells : List Cell = c.in_ok-shared.shared.cells.items in
    let firsts : List ℕ = c.in_ok-shared.shared.firsts.items in
    let words : List (List ℕ) = c.in_ok-shared.ensures.shared.0 in
    let types : length c.types.result.now ≡ length log.types = ap (λ (ts : List (List ℕ)). length ts) c.types.ensures.value in
    let used : c.len.result + FIRST_TYPE ≡ length log.types + FIRST_TYPE = omega (arith, types, c.len.ensures) in
    shares log words cells firsts c.in_ok-shared.shared.numbers.items _ c.in_ok-shared.ensures.shared.1
    (ap (λ (parts : Parts). parts.traces) c.in_ok-graph.ensures ∙ gathered_traces (length log.types + FIRST_TYPE) (length words) words cells firsts refl c.in_ok-shared.ensures.shared.1.gathered)
    (ap (λ (parts : Parts). parts.used) c.in_ok-graph.ensures ∙ used)
