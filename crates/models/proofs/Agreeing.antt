-- The graph of a model is that of an assignment, where its partitions and edges are.
use Rattle.std.proofs.Common.{◌≡◌, ℕ, ◌<◌, ◌==◌, ◌&&◌, nat_lt, Bool, true, false, List, [], ◌∷◌, sym, ◌∙◌, refl, ap, ap₂, subst, inl, inr, arith, eq-eqb, ne_eqb, eqb-true, lt-ltb, ltb-true}
use Rattle.std.proofs.lemmas.Bool.{cases_eq, and_parts, or_cases, or_left, or_right}
use Rattle.std.specs.List.{AllByRecursion}
use Rattle.invariants.specs.declared.records.Partition.{Partition}
use Rattle.invariants.specs.declared.records.Edge.{Edge}
use Rattle.invariants.specs.declared.records.Model.{Model}
use Rattle.partition_model.specs.Graphs.{Graph, Merged, merged_edge}
use Rattle.partition_model.specs.Assignments.{Assignment, G, IsTyped, type_of, edge_count, size, is_live}
use Rattle.partition_model.specs.Listings.{partition_of, edge_between, ArePartitions, AreEdges}
use Rattle.partition_model.specs.Coarsening.{onto}
use Rattle.partition_model.specs.Graphs.{IsFormed}
use Rattle.partition_model.proofs.Lists.{In, all_from}
use Rattle.partition_model.proofs.Listing.{Contains-In, In-Contains}
use Rattle.partition_model.proofs.Forming.{graphs_are_formed}
use Rattle.partition_model.proofs.Paths.{Maps}
use Rattle.partition_model.proofs.Merging.{onto_is, onto_other, merged_parts}
use Rattle.models.specs.Models.{has_edge, graph_of}
use Rattle.model_shape.specs.Shapes.{listed_type, is_listed}

-- the partition is live in the assignment, and has the type and the size that its id has there
abbrev pub IsPartitionOf : Assignment → Partition → Type 0
IsPartitionOf h x = (is_live h x.id ≡ true) × (x.typ ≡ type_of h x.id) × (x.count ≡ size h x.id)

-- the edge has the count that it has in the assignment, and this is not 0
abbrev pub IsEdgeOf : Assignment → Edge → Type 0
IsEdgeOf h x = (0 < x.count) × (x.count ≡ edge_count h x.from x.to)

-- where the list is that of the assignment, so is each partition in it
pub each-partition : (xs : List Partition) (h : Assignment) → ArePartitions xs h → AllByRecursion (IsPartitionOf h) xs
each-partition xs h a =
    all_from (IsPartitionOf h) xs (λ x i.
    let m : (is_live h x.id ≡ true) × (x ≡ partition_of h x.id) = (a.members x).0 (Contains-In x xs i) in
    (m.0, ap (λ (z : Partition). z.typ) m.1, ap (λ (z : Partition). z.count) m.1))

-- where the list is that of the assignment, so is each edge in it
pub each-edge : (xs : List Edge) (h : Assignment) → AreEdges xs h → AllByRecursion (IsEdgeOf h) xs
each-edge xs h a =
    all_from (IsEdgeOf h) xs (λ x i.
    let m : (0 < x.count) × (x ≡ edge_between h x.from x.to) = (a.members x).0 (Contains-In x xs i) in
    (m.0, ap (λ (z : Edge). z.count) m.1))

-- the id of a partition in the list is listed
pub In-listed : (x : Partition) (xs : List Partition) → In x xs → is_listed x.id xs ≡ true
In-listed x [] i = absurd i
In-listed x (y ∷ xs) (inl e) = or_left (y.id == x.id) (is_listed x.id xs) (eq-eqb y.id x.id (ap (λ (z : Partition). z.id) e))
In-listed x (y ∷ xs) (inr r) = or_right (y.id == x.id) (is_listed x.id xs) (In-listed x xs r)

-- an edge in the list leads from its start to its end
pub In-edges : (x : Edge) (xs : List Edge) → In x xs → has_edge x.from x.to xs ≡ true
In-edges x [] i = absurd i
In-edges x (y ∷ xs) (inl e) =
    let a : (y.from == x.from) ≡ true = eq-eqb y.from x.from (ap (λ (z : Edge). z.from) e) in
    let b : (y.to == x.to) ≡ true = eq-eqb y.to x.to (ap (λ (z : Edge). z.to) e) in
    or_left (y.from == x.from && y.to == x.to) (has_edge x.from x.to xs) (rw (a, b) refl)
In-edges x (y ∷ xs) (inr r) = or_right (y.from == x.from && y.to == x.to) (has_edge x.from x.to xs) (In-edges x xs r)

-- where an edge leads from p to q, one such edge is in the list
pub edge-in : (p q : ℕ) (xs : List Edge) → has_edge p q xs ≡ true → (x : Edge) × In x xs × (x.from ≡ p) × (x.to ≡ q)
edge-in p q [] e = absurd (cc e)
edge-in p q (x ∷ xs) e = elim (or_cases (x.from == p && x.to == q) (has_edge p q xs) e) [
  | inl t ↦ (let b : ((x.from == p) ≡ true) × ((x.to == q) ≡ true) = and_parts (x.from == p) (x.to == q) t in (x, inl refl, eqb-true x.from p b.0, eqb-true x.to q b.1))
  | inr f ↦ (let r : (x : Edge) × In x xs × (x.from ≡ p) × (x.to ≡ q) = edge-in p q xs f in (r.0, inr r.1, r.2, r.3))
]

-- each live id is listed
pub live-is-listed : (xs : List Partition) (h : Assignment) → ArePartitions xs h → (p : ℕ) → is_live h p ≡ true → is_listed p xs ≡ true
live-is-listed xs h a p l = In-listed (partition_of h p) xs (In-Contains xs (partition_of h p) ((a.members (partition_of h p)).1 (l, refl)))

-- ids that are neighbours in the assignment have an edge in the list
edge-is-listed : (xs : List Edge) (h : Assignment) → AreEdges xs h → (p q : ℕ) → 0 < edge_count h p q → has_edge p q xs ≡ true
edge-is-listed xs h a p q l = In-edges (edge_between h p q) xs (In-Contains xs (edge_between h p q) ((a.members (edge_between h p q)).1 (l, refl)))

-- a listed id has the type that it has in the assignment
type-listed : (h : Assignment) (p : ℕ) (xs : List Partition) → AllByRecursion (IsPartitionOf h) xs → is_listed p xs ≡ true → listed_type p xs ≡ type_of h p
type-listed h p [] a l = absurd (cc l)
type-listed h p (x ∷ xs) a l =
    elim (cases_eq x.id p) [
      | inl e ↦ rw (eq-eqb x.id p e) (a.0.1 ∙ ap (λ (y : ℕ). type_of h y) e)
      | inr n ↦ (let f : (x.id == p) ≡ false = ne_eqb x.id p n in rw f (type-listed h p xs a.1 (rw f at l)))
    ]

-- each listed id is live
live-listed : (h : Assignment) (p : ℕ) (xs : List Partition) → AllByRecursion (IsPartitionOf h) xs → is_listed p xs ≡ true → is_live h p ≡ true
live-listed h p [] a l = absurd (cc l)
live-listed h p (x ∷ xs) a l =
    elim (cases_eq x.id p) [
      | inl e ↦ subst (λ (y : ℕ). is_live h y ≡ true) e a.0.0
      | inr n ↦ (let f : (x.id == p) ≡ false = ne_eqb x.id p n in live-listed h p xs a.1 (rw f at l))
    ]

-- where an edge is in the list, its ends are neighbours in the assignment
edge-listed : (h : Assignment) (p q : ℕ) (xs : List Edge) → AllByRecursion (IsEdgeOf h) xs → has_edge p q xs ≡ true → 0 < edge_count h p q
edge-listed h p q [] a l = absurd (cc l)
edge-listed h p q (x ∷ xs) a l =
    elim (or_cases (x.from == p && x.to == q) (has_edge p q xs) l) [
      | inl b ↦
          let c : ((x.from == p) ≡ true) × ((x.to == q) ≡ true) = and_parts (x.from == p) (x.to == q) b in
          let e : edge_count h x.from x.to ≡ edge_count h p q = ap₂ (λ (y z : ℕ). edge_count h y z) (eqb-true x.from p c.0) (eqb-true x.to q c.1) in
          let k : x.count ≡ edge_count h x.from x.to = a.0.1 in
          let z : 0 < x.count = a.0.0 in
          omega arith
      | inr r ↦ edge-listed h p q xs a.1 r
    ]

-- two graphs with the same edges and listed ids, which have the same types
pub record Agrees (g k : Graph) : Type 0 where
  pub zero_is : g.typ 0 ≡ k.typ 0
  pub edges : (p q : ℕ) → g.edge p q ≡ k.edge p q
  pub types : (p : ℕ) → k.listed p ≡ true → g.typ p ≡ k.typ p
  pub listed : (p : ℕ) → g.listed p ≡ k.listed p
  pub ends : (p q : ℕ) → k.edge p q ≡ true → (k.listed p ≡ true) × (k.listed q ≡ true)

-- two truth values are the same where each holds with the other
same-bool : (a b : Bool) → (a ≡ true → b ≡ true) → (b ≡ true → a ≡ true) → a ≡ b
same-bool true b f g = sym (f refl)
same-bool false true f g = g refl
same-bool false false f g = refl

-- the graph of a model and that of an assignment agree, where the lists of the model are those of the assignment
pub agrees : (m : Model) (h : Assignment) → IsTyped h → ArePartitions m.partitions h → AreEdges m.edges h → Agrees (graph_of m) (G h)
agrees m h t ps es =
    let pe : AllByRecursion (IsPartitionOf h) m.partitions = each-partition m.partitions h ps in
    let ee : AllByRecursion (IsEdgeOf h) m.edges = each-edge m.edges h es in
    let f : IsFormed (G h) = graphs_are_formed h t in
    record {
      zero_is = type-listed h 0 m.partitions pe (live-is-listed m.partitions h ps 0 refl);
      edges = λ p q. same-bool (has_edge p q m.edges) (nat_lt 0 (edge_count h p q))
          (λ l. lt-ltb 0 (edge_count h p q) (edge-listed h p q m.edges ee l))
          (λ l. edge-is-listed m.edges h es p q (ltb-true 0 (edge_count h p q) l));
      types = λ p l. type-listed h p m.partitions pe (live-is-listed m.partitions h ps p l);
      listed = λ p. same-bool (is_listed p m.partitions) (is_live h p) (λ l. live-listed h p m.partitions pe l) (λ l. live-is-listed m.partitions h ps p l);
      ends = λ p q k. f.between p q k;
    }

-- of two graphs that agree, each edge of the second is one of the first, to an id of the same type
pub from-maps : (g k : Graph) → Agrees g k → Maps (λ x. x) k g
from-maps g k a =
    record { zero_is = refl; one_is = refl; start = a.zero_is; edges = λ p q e. a.edges p q ∙ e; types = λ p q e. a.types q (a.ends p q e).1 }

-- the same is so of their merged graphs
pub merged-agrees : (g k : Graph) (p q : ℕ) → Agrees g k → k.listed p ≡ true → Maps (λ x. x) (Merged k p q) (Merged g p q)
merged-agrees g k p q a l =
    record {
      zero_is = refl;
      one_is = refl;
      start = a.zero_is;
      edges = λ u v e. same u v ∙ e;
      types = λ u v e.
          let b : (x y : ℕ) × (onto p q x ≡ u) × (onto p q y ≡ v) × (k.edge x y ≡ true) = merged_parts k p q u v e in
          a.types v (elim (cases_eq b.1 q) [
            | inl c ↦ subst (λ (z : ℕ). k.listed z ≡ true) (sym (onto_is p q b.1 c) ∙ b.3) l
            | inr c ↦ subst (λ (z : ℕ). k.listed z ≡ true) (sym (onto_other p q b.1 c) ∙ b.3) (a.ends b.0 b.1 b.4).1
          ]);
    }
  where
    same : (u v : ℕ) → merged_edge g p q u v ≡ merged_edge k p q u v
    same u v = rw (a.edges u v, a.edges q v, a.edges u q, a.edges q q) refl
