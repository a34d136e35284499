-- The tables of a well-shaped model: they show its graph.
use Rattle.std.proofs.Common.{◌≡◌, ◌≢◌, ℕ, ◌+◌, ◌<◌, ◌≤◌, ◌==◌, ◌&&◌, ◌||◌, nat_lt, Bool, true, false, List, [], ◌∷◌, length, get_or, refl, sym, ◌∙◌, ap, ap₂, subst, inl, inr, arith, eq-eqb, ne_eqb, eqb-true, lt-ltb, le-ltb}
use Rattle.std.proofs.lemmas.Bool.{cases_eq, cases_lt, cases_Bool}
use Rattle.std.proofs.Math.Bool.{or-false}
use Rattle.std.specs.List.{AllByRecursion}
use Rattle.limits.specs.declared.TheConstants.{FIRST_TYPE, MAX_TYPES, MAX_PARTITIONS}
use Rattle.invariants.specs.declared.records.Partition.{Partition}
use Rattle.invariants.specs.declared.records.Edge.{Edge}
use Rattle.invariants.specs.declared.records.Model.{Model}
use Rattle.partition_model.proofs.Lists.{all_in, all_from}
use Rattle.model_shape.specs.Ascending.{Ascends, PartitionBefore}
use Rattle.model_shape.specs.Shapes.{is_listed, listed_type, IsEventPartition, IsShapedEdge, IsWellShaped}
use Rattle.models.specs.Models.{has_edge, graph_of}
use Rattle.models.proofs.Formed.{shaped_are_formed}
use Rattle.model_check.specs.declared.rows.IdRows.{IdRows}
use Rattle.model_check.specs.declared.sets.TheConstants.{MEMBERS, LISTED, TYPES}
use Rattle.model_check.specs.Rows.{bit, shown, marked, IsMarkable, IsEdgeWithin, AreApart, IsLaid}
use Rattle.model_check.proofs.Tabling.{unlisted-type}

-- where partitions ascend, no id up to that of the first is among the others
not-below : (x : Partition) (xs : List Partition) (p : ℕ) → Ascends PartitionBefore (x ∷ xs) → p ≤ x.id → is_listed p xs ≡ false
not-below x [] p a l = refl
not-below x (y ∷ ys) p a l =
    let b : x.id < y.id = a.0 in
    let f : (y.id == p) ≡ false = ne_eqb y.id p (omega arith) in
    rw f (not-below y ys p a.1 (omega arith))

-- no two partitions that ascend have one id
pub ascends-apart : (xs : List Partition) → Ascends PartitionBefore xs → AreApart xs
ascends-apart [] a = tt
ascends-apart (x ∷ xs) a = (not-below x xs x.id a (omega arith), ascends-apart xs a.1)

-- a partition of events has its place in the rows
event-markable : (types : ℕ) (x : Partition) → types ≤ MAX_TYPES → IsEventPartition types x → IsMarkable x
event-markable types x few e = (e.id, (let h : x.typ < types + FIRST_TYPE = e.type_high in omega arith))

-- each partition of a well-shaped model has its place in the rows
pub markable : (m : Model) → IsWellShaped m → AllByRecursion IsMarkable m.partitions
markable m w =
    let few : length m.types ≤ MAX_TYPES = w.types.few in
    subst (λ (xs : List Partition). AllByRecursion IsMarkable xs) (sym w.partitions.ends) (
      (omega arith, omega arith),
      ((omega arith, omega arith), all_from IsMarkable w.partitions.inner (λ x i. event-markable (length m.types) x few (all_in (IsEventPartition (length m.types)) x w.partitions.inner w.partitions.each i))),
    )

-- each edge of a well-shaped model has its place in the rows
pub edges-within : (m : Model) → IsWellShaped m → AllByRecursion IsEdgeWithin m.edges
edges-within m w =
    let below : (p : ℕ) → is_listed p m.partitions ≡ true → p < MAX_PARTITIONS = (shaped_are_formed m w).1 in
    all_from IsEdgeWithin m.edges (λ x i. let e : IsShapedEdge m.partitions x = all_in (IsShapedEdge m.partitions) x m.edges w.edges.each i in (below x.from e.has_from, below x.to e.has_to))

-- no partition is marked in the rows of edges
marked-low : (r k : ℕ) (xs : List Partition) → r < MEMBERS → marked r k xs ≡ false
marked-low r k [] l = refl
marked-low r k (x ∷ xs) l =
    let a : (LISTED == r) ≡ false = ne_eqb LISTED r (omega arith) in
    let b : (MEMBERS + x.typ == r) ≡ false = ne_eqb (MEMBERS + x.typ) r (omega arith) in
    rw (a, b) (marked-low r k xs l)

-- the row of all ids has those that are listed
marked-all : (k : ℕ) (xs : List Partition) → AllByRecursion IsMarkable xs → marked LISTED k xs ≡ is_listed k xs
marked-all k [] m = refl
marked-all k (x ∷ xs) m =
    let t : x.typ < TYPES = m.0.1 in
    let b : (MEMBERS + x.typ == LISTED) ≡ false = ne_eqb (MEMBERS + x.typ) LISTED (omega arith) in
    rw (b, marked-all k xs m.1, or-false (x.id == k)) refl

-- two types have the same row exactly where they are the same
same-member : (a b : ℕ) → (MEMBERS + a == MEMBERS + b) ≡ (a == b)
same-member a b =
    elim (cases_eq a b) [
      | inl e ↦ rw (eq-eqb a b e, eq-eqb (MEMBERS + a) (MEMBERS + b) (ap (λ n. MEMBERS + n) e)) refl
      | inr n ↦ (let f : MEMBERS + a ≢ MEMBERS + b = λ e. n (omega (arith, e)) in rw (ne_eqb a b n, ne_eqb (MEMBERS + a) (MEMBERS + b) f) refl)
    ]

-- the row of a type has the listed ids of this type
marked-type : (t k : ℕ) (xs : List Partition) → 0 < t → t < TYPES → AreApart xs → marked (MEMBERS + t) k xs ≡ (listed_type k xs == t)
marked-type t k [] low high a = sym (ne_eqb 0 t (omega arith))
marked-type t k (x ∷ xs) low high a =
    let f : (LISTED == MEMBERS + t) ≡ false = ne_eqb LISTED (MEMBERS + t) (omega arith) in
    let rest : marked (MEMBERS + t) k xs ≡ (listed_type k xs == t) = marked-type t k xs low high a.1 in
    elim (cases_Bool (x.id == k)) [
      | inl y ↦
          let gone : is_listed k xs ≡ false = ap (λ z. is_listed z xs) (sym (eqb-true x.id k y)) ∙ a.0 in
          let none : (listed_type k xs == t) ≡ false = ap (λ z. z == t) (unlisted-type k xs gone) ∙ ne_eqb 0 t (omega arith) in
          rw (f, same-member x.typ t, y, rest, none) (here (x.typ == t))
      | inr n ↦ rw (f, same-member x.typ t, n, rest) (there (x.typ == t) (listed_type k xs == t))
    ]
  where
    here : (b : Bool) → ((false || (b && true)) || false) ≡ b
    here true = refl
    here false = refl

    there : (b c : Bool) → ((false || (b && false)) || c) ≡ c
    there true c = refl
    there false c = refl

-- no edge is in the rows of types and sets
no-edge : (r k : ℕ) (xs : List Edge) → AllByRecursion IsEdgeWithin xs → MAX_PARTITIONS ≤ r → has_edge r k xs ≡ false
no-edge r k [] w l = refl
no-edge r k (x ∷ xs) w l =
    let b : x.from < MAX_PARTITIONS = w.0.0 in
    let f : (x.from == r) ≡ false = ne_eqb x.from r (omega arith) in
    rw f (no-edge r k xs w.1 l)

-- the tables have the types of the partitions, and in the rows what was marked for partitions and edges
pub record IsBuilt (m : Model) (types : List ℕ) (rows : IdRows) : Type 0 where
  pub size : length types ≡ MAX_PARTITIONS
  pub types_are : (p : ℕ) → get_or types p 0 ≡ listed_type p m.partitions
  pub rows_are : (r k : ℕ) → bit rows r k ≡ (marked r k m.partitions || has_edge r k m.edges)

-- in tables that are built so, the row of each type has the ids of this type
pub built-laid : (m : Model) (types : List ℕ) (rows : IdRows) → IsWellShaped m → IsBuilt m types rows → IsLaid types rows
built-laid m types rows w b =
    record {
      size = b.size;
      members = λ x q low high.
          b.rows_are (MEMBERS + x) q
          ∙ ap₂ (λ a c. a || c) (marked-type x q m.partitions low high (ascends-apart m.partitions w.partitions.order)) (no-edge (MEMBERS + x) q m.edges (edges-within m w) (omega arith))
          ∙ or-false (listed_type q m.partitions == x)
          ∙ ap (λ z. z == x) (sym (b.types_are q));
    }

-- tables that are built so show the graph of the model
pub built-shown : (m : Model) (types : List ℕ) (rows : IdRows) → IsWellShaped m → IsBuilt m types rows → shown (record { types = types; rows = rows.bits }) ≡ graph_of m
built-shown m types rows w b =
    λ i. record { typ = λ p. b.types_are p i; edge = λ p q. edges p q i; listed = λ p. all p i }
  where
    edges : (p q : ℕ) → (nat_lt p MAX_PARTITIONS && bit rows p q) ≡ has_edge p q m.edges
    edges p q =
        elim (cases_lt p MAX_PARTITIONS) [
          | inl l ↦ rw (lt-ltb p MAX_PARTITIONS l) (b.rows_are p q ∙ ap (λ z. z || has_edge p q m.edges) (marked-low p q m.partitions l))
          | inr n ↦ rw (le-ltb p MAX_PARTITIONS n) (sym (no-edge p q m.edges (edges-within m w) n))
        ]

    all : (p : ℕ) → bit rows LISTED p ≡ is_listed p m.partitions
    all p =
        b.rows_are LISTED p
        ∙ ap₂ (λ a c. a || c) (marked-all p m.partitions (markable m w)) (no-edge LISTED p m.edges (edges-within m w) (omega arith))
        ∙ or-false (is_listed p m.partitions)
