use Rattle.std.proofs.Common.{◌≡◌, ◌||◌, ℕ, Option, sym, ap, ◌∙◌, subst}
use Rattle.partition_model.specs.Graphs.{merged_edge}
use Rattle.partition_model.specs.Assignments.{G}
use Rattle.partition_graph.specs.MergedNeighbours.{own_target, gained_target, kept_target}
use Rattle.partition_graph.specs.Nexts.{IsNextAnswer, lesser}
use Rattle.partition_graph.proofs.NextOnes.{next_same, next_lesser, merged_targets}
use Rattle.partition_graph.proofs.merged.next_merged_target.Goals as goal

pub returns-clause-next : goal.returns-clause-next
returns-clause-next c =
    let g = G c.args.graph.now.traces in
    let p = c.args.p in
    let q = c.args.q in
    let u = c.args.u in
    let own : Option ℕ = c.next_own_target-own.result in
    let gained : Option ℕ = c.next_gained_target-gained.result in
    let kept : Option ℕ = c.next_kept_target-kept.result in
    let is : c.lesser-2.result ≡ lesser own (lesser gained kept) = c.lesser-2.ensures ∙ ap (λ (o : Option ℕ). lesser own o) c.lesser.ensures in
    subst (λ (o : Option ℕ). IsNextAnswer (λ v. merged_edge g p q u v) c.args.from o) (sym is)
    (next_same (λ v. own_target g q u v || (gained_target g p q u v || kept_target g p q u v)) (λ v. merged_edge g p q u v) c.args.from (lesser own (lesser gained kept))
    (merged_targets g p q u c.requires.order c.if-u-q.false)
    (next_lesser (own_target g q u) (λ v. gained_target g p q u v || kept_target g p q u v) c.args.from own (lesser gained kept) c.next_own_target-own.ensures.next
    (next_lesser (gained_target g p q u) (kept_target g p q u) c.args.from gained kept c.next_gained_target-gained.ensures.next c.next_kept_target-kept.ensures.next)))
