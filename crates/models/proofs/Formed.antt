-- The graph of a well-shaped model is formed.
use Rattle.std.proofs.Common.{◌≡◌, ℕ, ◌<◌, ◌==◌, true, List, [], ◌∷◌, sym, ◌∙◌, ap, subst, inl, inr, arith, eqb-true}
use Rattle.std.proofs.lemmas.Bool.{or_cases}
use Rattle.std.specs.List.{AllByRecursion}
use Rattle.invariants.specs.declared.records.Partition.{Partition}
use Rattle.invariants.specs.declared.records.Edge.{Edge}
use Rattle.partition_model.proofs.Lists.{In, all_in}
use Rattle.models.specs.Models.{has_edge}
use Rattle.models.specs.Laws.{ShapedAreFormed}
use Rattle.models.proofs.Agreeing.{edge-in}
use Rattle.model_shape.specs.Shapes.{listed_type, is_listed, end_of, IsEventPartition, IsShapedEdge}

inner-below : (types : ℕ) (xs : List Partition) (p : ℕ) → AllByRecursion (IsEventPartition types) xs → is_listed p xs ≡ true → p < 1024
inner-below types [] p a e = absurd (cc e)
inner-below types (x ∷ xs) p a e =
    elim (or_cases (x.id == p) (is_listed p xs) e) [
      | inl t ↦ (let q : x.id ≡ p = eqb-true x.id p t in let l : x.id < 1024 = a.0.id in omega arith)
      | inr f ↦ inner-below types xs p a.1 f
    ]

below : (types traces : ℕ) (xs : List Partition) (p : ℕ) → AllByRecursion (IsEventPartition types) xs → is_listed p (end_of 0 traces ∷ end_of 1 traces ∷ xs) ≡ true → p < 1024
below types traces xs p a e =
    elim (or_cases (0 == p) (is_listed p (end_of 1 traces ∷ xs)) e) [
      | inl t ↦ (let q : 0 ≡ p = eqb-true 0 p t in omega arith)
      | inr f ↦ elim (or_cases (1 == p) (is_listed p xs) f) [
        | inl t ↦ (let q : 1 ≡ p = eqb-true 1 p t in omega arith)
        | inr g ↦ inner-below types xs p a g
      ]
    ]

-- the graph of a well-shaped model is formed, and its ids keep the limit
pub shaped_are_formed : ShapedAreFormed
shaped_are_formed m w =
    let e : m.partitions ≡ end_of 0 w.partitions.traces ∷ end_of 1 w.partitions.traces ∷ w.partitions.inner = w.partitions.ends in (
      record {
        start_listed = ap (is_listed 0) e;
        end_listed = ap (is_listed 1) e;
        start_type = ap (listed_type 0) e;
        end_type = ap (listed_type 1) e;
        between = λ p q k. (let s : IsShapedEdge m.partitions (edge p q k).0 = shaped p q k in (
          subst (λ (z : ℕ). is_listed z m.partitions ≡ true) (edge p q k).2 s.has_from,
          subst (λ (z : ℕ). is_listed z m.partitions ≡ true) (edge p q k).3 s.has_to,
        ));
        none_into_start = λ p k. (shaped p 0 k).not_to_start (edge p 0 k).3;
        none_out_of_end = λ q k. (shaped 1 q k).not_from_end (edge 1 q k).2;
      },
      λ p l. below _ w.partitions.traces w.partitions.inner p w.partitions.each (sym (ap (is_listed p) e) ∙ l),
    )
  where
    edge : (p q : ℕ) → has_edge p q m.edges ≡ true → (x : Edge) × In x m.edges × (x.from ≡ p) × (x.to ≡ q)
    edge p q k = edge-in p q m.edges k

    shaped : (p q : ℕ) (k : has_edge p q m.edges ≡ true) → IsShapedEdge m.partitions (edge p q k).0
    shaped p q k = all_in (IsShapedEdge m.partitions) (edge p q k).0 m.edges w.edges.each (edge p q k).1
