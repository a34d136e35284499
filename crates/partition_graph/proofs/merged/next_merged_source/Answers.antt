use Rattle.std.proofs.Common.{◌≡◌, ◌||◌, ℕ, Option, sym, ap, ◌∙◌, subst}
use Rattle.partition_model.specs.Graphs.{merged_edge}
use Rattle.partition_model.specs.Assignments.{G}
use Rattle.partition_graph.specs.MergedNeighbours.{own_source, gained_source, kept_source}
use Rattle.partition_graph.specs.Nexts.{IsNextAnswer, lesser}
use Rattle.partition_graph.proofs.NextOnes.{next_same, next_lesser, merged_sources}
use Rattle.partition_graph.proofs.merged.next_merged_source.Goals as goal

pub returns-clause-next : goal.returns-clause-next
returns-clause-next c =
    let g = G c.args.graph.now.traces in
    let p = c.args.p in
    let q = c.args.q in
    let v = c.args.v in
    let own : Option ℕ = c.next_own_source-own.result in
    let gained : Option ℕ = c.next_gained_source-gained.result in
    let kept : Option ℕ = c.next_kept_source-kept.result in
    let is : c.lesser-2.result ≡ lesser own (lesser gained kept) = c.lesser-2.ensures ∙ ap (λ (o : Option ℕ). lesser own o) c.lesser.ensures in
    subst (λ (o : Option ℕ). IsNextAnswer (λ u. merged_edge g p q u v) c.args.from o) (sym is)
    (next_same (λ u. own_source g q v u || (gained_source g p q v u || kept_source g p q v u)) (λ u. merged_edge g p q u v) c.args.from (lesser own (lesser gained kept))
    (merged_sources g p q v c.requires.order c.if-v-q.false)
    (next_lesser (own_source g q v) (λ u. gained_source g p q v u || kept_source g p q v u) c.args.from own (lesser gained kept) c.next_own_source-own.ensures.next
    (next_lesser (gained_source g p q v) (kept_source g p q v) c.args.from gained kept c.next_gained_source-gained.ensures.next c.next_kept_source-kept.ensures.next)))
