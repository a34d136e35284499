-- The lists of a model, made from an assignment and from the numbers of reached states.
use Rattle.std.proofs.Common.{◌≡◌, ◌↔◌, ℕ, suc, ◌==◌, true, false, List, [], ◌∷◌, length, slice_get, Some, sym, refl, subst, subst₂, inl, inr, arith, eq-eqb, ne_eqb}
use Rattle.std.proofs.lemmas.Bool.{cases_eq}
use Rattle.invariants.specs.declared.records.Partition.{Partition}
use Rattle.invariants.specs.declared.records.Edge.{Edge}
use Rattle.partition_model.specs.Assignments.{G}
use Rattle.partition_model.specs.Labels.{Reached}
use Rattle.partition_model.specs.Listings.{ArePartitions, AreEdges, partitions_below, edges_below}
use Rattle.partition_model.proofs.Listing.{are_partitions, are_edges}
use Rattle.models.specs.Models.{has_state, label_at}
use Rattle.models.specs.Laws.{GraphIsListed, NumbersGiveLabels}
use Rattle.models.proofs.Agreeing.{live-is-listed}
use Rattle.models.proofs.Unique.{one-partitions, one-edges}
use Rattle.model_shape.specs.Shapes.{is_listed}

-- a model has the graph of an assignment exactly where its lists are those of the assignment
pub graph_is_listed : GraphIsListed
graph_is_listed m h n l b =
    let ps : ArePartitions (partitions_below n h) h = are_partitions h n l b in
    let es : AreEdges (edges_below n h) h = are_edges h n l b in (
      λ g. (one-partitions h m.partitions (partitions_below n h) g.partitions ps, one-edges h m.edges (edges_below n h) g.edges es),
      λ e. record {
        partitions = subst (λ (xs : List Partition). ArePartitions xs h) (sym e.0) ps;
        edges = subst (λ (xs : List Edge). AreEdges xs h) (sym e.1) es;
      },
    )

-- the number beside an id
record IsBeside (xs : List Partition) (numbers : List ℕ) (p k : ℕ) (x : Partition) (number : ℕ) : Type 0 where
  at_x : slice_get xs k ≡ Some x
  at_number : slice_get numbers k ≡ Some number
  id : x.id ≡ p
  label : label_at p xs numbers ≡ number

beside : (xs : List Partition) (numbers : List ℕ) (p : ℕ) → length numbers ≡ length xs → is_listed p xs ≡ true → (k : ℕ) × (x : Partition) × (number : ℕ) × IsBeside xs numbers p k x number
beside [] numbers p l e = absurd (cc e)
beside (x ∷ xs) [] p l e = absurd (omega arith)
beside (x ∷ xs) (n ∷ numbers) p l e =
    elim (cases_eq x.id p) [
      | inl q ↦ (
        0,
        x,
        n,
        record { at_x = refl; at_number = refl; id = q; label = (let a : (x.id == p) ≡ true = eq-eqb x.id p q in rw a refl) },
      )
      | inr f ↦
          let a : (x.id == p) ≡ false = ne_eqb x.id p f in
          let o : (k : ℕ) × (y : Partition) × (number : ℕ) × IsBeside xs numbers p k y number = beside xs numbers p (omega arith) (rw a at e) in
          (suc o.0, o.1, o.2, record { at_x = o.3.at_x; at_number = o.3.at_number; id = o.3.id; label = rw a o.3.label })
    ]

-- numbers of the states that are reached, partition by partition, are the labels
pub numbers_give_labels : NumbersGiveLabels
numbers_give_labels inv h xs numbers a r =
    record {
      count = r.count;
      each = r.each;
      states = λ p s l k.
          let o : (k : ℕ) × (x : Partition) × (number : ℕ) × IsBeside xs numbers p k x number = beside xs numbers p r.count (live-is-listed xs h a p l) in
          let t : (has_state o.2 s ≡ true) ↔ Reached inv (G h) o.1.id s = r.states o.0 o.1 o.2 s o.3.at_x o.3.at_number k in
          subst₂ (λ (n u : ℕ). (has_state n s ≡ true) ↔ Reached inv (G h) u s) (sym o.3.label) o.3.id t;
    }
