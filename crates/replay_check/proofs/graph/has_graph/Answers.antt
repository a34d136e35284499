use Rattle.std.proofs.Common.{◌≡◌, ℕ, List, length, true≢false, sym, ◌∙◌, subst}
use Rattle.invariants.specs.declared.records.Edge.{Edge}
use Rattle.invariants.specs.declared.records.Partition.{Partition}
use Rattle.partition_model.specs.Listings.{partitions_below, ArePartitions, AreEdges}
use Rattle.models.proofs.Unique.{one-partitions, one-edges}
use Rattle.replay_check.specs.Shown.{HasSizes}
use Rattle.replay_check.proofs.Known.{has-sizes, all-partitions}
use Rattle.replay_check.proofs.graph.has_graph.Goals as goal

pub returns-then-not-same_partitions : goal.returns-then-not-same_partitions
returns-then-not-same_partitions c = λ h e k. (
  λ f. absurd (true≢false (sym f)),
  λ g. absurd (
      let all : List Partition = partitions_below (length c.args.live.now) h in
      let ps : c.in_ok-partitions.partitions.items ≡ all = c.in_ok-partitions.ensures h k (subst (λ (xs : List ℕ). HasSizes h xs) (sym c.deref.ensures.value) (has-sizes h c.args.ids.now c.in_ok-sizes.sizes.items k.typed e c.in_ok-sizes.ensures.sizes)) in
      let same : c.args.model.now.partitions ≡ all = one-partitions h c.args.model.now.partitions all g.partitions (all-partitions h c.args.live.now c.args.types.now (length c.args.live.now) c.requires.live_size k) in
      true≢false (sym (c.same_partitions.ensures.1 (c.as_slice.ensures ∙ same ∙ sym ps ∙ sym c.deref-2.ensures.value)) ∙ c.if-not-same_partitions.true)),
)

pub returns : goal.returns
returns c = λ h e k.
    let all : List Partition = partitions_below (length c.args.live.now) h in
    let ps : c.in_ok-partitions.partitions.items ≡ all = c.in_ok-partitions.ensures h k (subst (λ (xs : List ℕ). HasSizes h xs) (sym c.deref.ensures.value) (has-sizes h c.args.ids.now c.in_ok-sizes.sizes.items k.typed e c.in_ok-sizes.ensures.sizes)) in
    let es : AreEdges c.in_ok-edges.edges.items h = c.in_ok-edges.ensures h k.typed e in (
      λ t. record {
        partitions = subst (λ (xs : List Partition). ArePartitions xs h)
            (sym (sym c.as_slice.ensures ∙ c.same_partitions.ensures.0 c.if-not-same_partitions.false ∙ c.deref-2.ensures.value ∙ ps))
            (all-partitions h c.args.live.now c.args.types.now (length c.args.live.now) c.requires.live_size k);
        edges = subst (λ (xs : List Edge). AreEdges xs h) (sym (sym c.as_slice-2.ensures ∙ c.same_edges.ensures.0 t ∙ c.deref-3.ensures.value)) es;
      },
      λ g. c.same_edges.ensures.1 (c.as_slice-2.ensures ∙ one-edges h c.args.model.now.edges c.in_ok-edges.edges.items g.edges es ∙ sym c.deref-3.ensures.value),
    )
