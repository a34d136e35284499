use Rattle.std.proofs.Common.{◌≡◌, ◌≤◌, ℕ, List, IfOk, arith, subst}
use Rattle.std.proofs.lemmas.Result.{IfOk-weaker}
use Rattle.limits.specs.declared.TheConstants.{FIRST_TYPE, MAX_PARTITIONS}
use Rattle.invariants.specs.declared.records.Partition.{Partition}
use Rattle.invariants.specs.declared.records.Edge.{Edge}
use Rattle.partition_model.specs.Listings.{edges_below, partitions_below, AreBelow}
use Rattle.partition_graph.specs.Parts.{Parts}
use Rattle.infer_core.specs.Workbenches.{whole_of, AreListsOf}
use Rattle.infer_core.proofs.Spreading.{lists-of, ok-both, whole-in-order}
use Rattle.infer_core.proofs.whole.whole_lists.Goals as goal

pub returns-then-are_in_order : goal.returns-then-are_in_order
returns-then-are_in_order c =
    let g : Parts = c.args.graph.now in
    let two : FIRST_TYPE ≤ g.used = omega (arith, c.ids_used.ensures.value, c.ids_used.ensures.two) in
    let limit : g.used ≤ MAX_PARTITIONS = omega (arith, c.ids_used.ensures.value, c.ids_used.ensures.limit) in
    let below : AreBelow g.used g.traces = subst (λ (n : ℕ). AreBelow n g.traces) c.ids_used.ensures.value c.ids_used.ensures.below in
    IfOk-weaker c.both.result _ _
    (λ pair made. subst (λ (graph : Parts). AreListsOf graph pair.0 pair.1) (whole-in-order c.args.numbers.now g c.requires.all c.if-are_in_order.ensures)
    (lists-of g pair.0 pair.1 two limit below (subst (λ r. IfOk r (λ (list : List Partition). list ≡ partitions_below g.used g.traces)) made.0 c.partitions.ensures)
    (subst (λ r. IfOk r (λ (list : List Edge). list ≡ edges_below g.used g.traces)) made.1 c.edges.ensures)))
    (ok-both c.both.result _ _ c.both.ensures.first c.both.ensures.second)

pub returns : goal.returns
returns c =
    let g : Parts = c.args.graph.now in
    let two : FIRST_TYPE ≤ g.used = omega (arith, c.ids_used.ensures.value, c.ids_used.ensures.two) in
    let limit : g.used ≤ MAX_PARTITIONS = omega (arith, c.ids_used.ensures.value, c.ids_used.ensures.limit) in
    IfOk-weaker c.spread_lists.result _ _
    (λ pair made. lists-of (whole_of c.args.numbers.now g) pair.0 pair.1 two limit made.1.1 made.0 made.1.0)
    (ok-both c.spread_lists.result _ _ c.spread_lists.ensures.partitions (ok-both c.spread_lists.result _ _ c.spread_lists.ensures.edges c.spread_lists.ensures.below))
