use Rattle.std.proofs.Common.{◌≡◌, ◌+◌, ℕ, IfOk, List, length, arith, ap, subst, sym}
use Rattle.limits.specs.declared.TheConstants.{FIRST_TYPE}
use Rattle.partition_model.specs.Assignments.{by_type}
use Rattle.partition_model.specs.Listings.{edges_below, partitions_below}
use Rattle.partition_graph.specs.Parts.{inner_words_of}
use Rattle.partition_graph.specs.Tables.{IsCountedFor}
use Rattle.partition_graph.proofs.lists.start_lists.Goals as goal
use Rattle.partition_graph.proofs.lists.start_lists.Goals.{After-drop}

used : (c : After-drop) → c.len.result + FIRST_TYPE ≡ length c.args.traces.now.types + FIRST_TYPE
used c = let types : length c.types.result.now ≡ length c.args.traces.now.types = ap (λ (ts : List (List ℕ)). length ts) c.types.ensures.value in omega (arith, types, c.len.ensures)

counted : (c : After-drop) → IsCountedFor c.in_ok-tables.tables c.trace_count.result (by_type (inner_words_of c.args.traces.now))
counted c = subst (λ n. IsCountedFor c.in_ok-tables.tables n (by_type (inner_words_of c.args.traces.now))) (sym c.trace_count.ensures.value) c.in_ok-tables.ensures.counted

pub returns-clause-partitions : goal.returns-clause-partitions
returns-clause-partitions c =
    let h = by_type (inner_words_of c.args.traces.now) in
    subst (λ n. IfOk c.lists_of-lists.result (λ pair. pair.0 ≡ partitions_below n h)) (used c) (c.lists_of-lists.ensures.partitions h (counted c))

pub returns-clause-edges : goal.returns-clause-edges
returns-clause-edges c =
    let h = by_type (inner_words_of c.args.traces.now) in
    subst (λ n. IfOk c.lists_of-lists.result (λ pair. pair.1 ≡ edges_below n h)) (used c) (c.lists_of-lists.ensures.edges h (counted c))
