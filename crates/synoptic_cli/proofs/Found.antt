-- What the report of a graph looks up is there: the partitions of each edge, and the text of each type.
use Rattle.std.proofs.Common.{◌≡◌, ℕ, zero, suc, ◌+◌, ◌-◌, ◌<◌, ◌≤◌, ◌==◌, nat_lt, true, false, cond, List, [], ◌∷◌, length, slice_index_or, is_some, Some, Contains, count_by, sym, ◌∙◌, refl, ap, subst, inl, inr, arith, eq-eqb, ne_eqb, lt-ltb, ltb-true, le-ltb}
use Rattle.std.proofs.lemmas.Bool.{cases_eq}
use Rattle.std.proofs.lemmas.Option.{slice_get-get_or}
use Rattle.std.proofs.lemmas.List.Sums.{sum_by-cons}
use Rattle.std.specs.List.{AllByRecursion}
use Rattle.invariants.specs.declared.records.Partition.{Partition}
use Rattle.invariants.specs.declared.records.Edge.{Edge}
use Rattle.partition_model.specs.Assignments.{Event, Assignment, AllEvents, IsTyped, events, edge_count, first_type, is_live, members, type_of}
use Rattle.partition_model.specs.Laws.{GraphsAreFormed}
use Rattle.partition_model.specs.Listings.{AreBelow, ArePartitions, AreEdges, partition_of}
use Rattle.reports.specs.Reports.{partition_with}
use Rattle.synoptic_cli.specs.Commands.TypeNames.{HasText}

-- a search of the list finds the assignment's partition with this id
abbrev Finds : Assignment → List Partition → ℕ → Type 0
Finds h xs id = partition_with xs id ≡ Some (partition_of h id)

-- what is so of each member is so all along the list
pub all-members : {X : Type 0} (P : X → Type 0) (xs : List X) → ((x : X) → Contains xs x → P x) → AllByRecursion P xs
all-members P [] f = tt
all-members P (x ∷ xs) f = (f x (0, omega arith, refl), all-members P xs (λ y c. f y (suc c.0, omega (arith, c.1), c.2)))

-- a member that is not the first is behind it
behind : {X : Type 0} (x y : X) (xs : List X) → (x ≡ y → ⊥) → (k : ℕ) → k < suc (length xs) → slice_index_or (x ∷ xs) k y ≡ y → Contains xs y
behind x y xs n zero l e = absurd (n e)
behind x y xs n (suc k) l e = (k, omega (arith, l), e)

-- a partition of the list is found by its id
find-member : (h : Assignment) (id : ℕ) (xs : List Partition) → AllByRecursion (λ p. p ≡ partition_of h p.id) xs → Contains xs (partition_of h id) → Finds h xs id
find-member h id [] all c = absurd (omega (arith, c.1))
find-member h id (x ∷ xs) all c =
    elim (cases_eq x.id id) [
      | inl e ↦ let t : (x.id == id) ≡ true = eq-eqb x.id id e in rw t (ap Some (all.0 ∙ ap (partition_of h) e))
      | inr n ↦
          let f : (x.id == id) ≡ false = ne_eqb x.id id n in
          rw f (find-member h id xs all.1 (behind x (partition_of h id) xs (λ e. n (ap (λ (p : Partition). p.id) e)) c.0 c.1 c.2))
    ]

listed-found : (h : Assignment) (xs : List Partition) → ArePartitions xs h → (id : ℕ) → is_live h id ≡ true → Finds h xs id
listed-found h xs are id live =
    find-member h id xs (all-members (λ p. p ≡ partition_of h p.id) xs (λ p c. ((are.members p).0 c).1)) ((are.members (partition_of h id)).1 (live, refl))

-- an edge goes between listed ids, and so both are found
pub ends-found : (h : Assignment) (xs : List Partition) (es : List Edge) → GraphsAreFormed → IsTyped h → ArePartitions xs h → AreEdges es h
    → AllByRecursion (λ e. Finds h xs e.from × Finds h xs e.to) es
ends-found h xs es formed typed partitions edges = all-members (λ e. Finds h xs e.from × Finds h xs e.to) es (λ e c.
    let m : (0 < e.count) × (e ≡ record { from = e.from; to = e.to; count = edge_count h e.from e.to }) = (edges.members e).0 c in
    let k : 0 < edge_count h e.from e.to = subst (λ (n : ℕ). 0 < n) (ap (λ (x : Edge). x.count) m.1) m.0 in
    let l : (is_live h e.from ≡ true) × (is_live h e.to ≡ true) = (formed h typed).between e.from e.to (lt-ltb 0 (edge_count h e.from e.to) k) in
    (listed-found h xs partitions e.from l.0, listed-found h xs partitions e.to l.1))

-- where each event has its type's number as its id, an id's type is the id
first-type : (n p : ℕ) (es : List Event) → AllByRecursion (λ (e : Event). e.id ≡ e.typ) es → AllByRecursion (λ (e : Event). e.id < n) es → 0 < count_by (λ (e : Event). e.id == p) es
    → (first_type p es ≡ p) × (p < n)
first-type n p [] same below k = absurd (omega arith)
first-type n p (e ∷ es) same below k =
    elim (cases_eq e.id p) [
      | inl q ↦ let t : (e.id == p) ≡ true = eq-eqb e.id p q in (rw t (sym same.0 ∙ q), subst (λ (z : ℕ). z < n) q below.0)
      | inr d ↦
          let f : (e.id == p) ≡ false = ne_eqb e.id p d in
          let s : count_by (λ (d : Event). d.id == p) (e ∷ es) ≡ cond (e.id == p) 1 0 + count_by (λ (d : Event). d.id == p) es = sum_by-cons (λ (d : Event). cond (d.id == p) 1 0) e es in
          let b : ◌≡◌ {A = ℕ} (cond (e.id == p) 1 0) 0 = rw f in
          let l : 0 < count_by (λ (d : Event). d.id == p) es = omega arith in
          let o : (first_type p es ≡ p) × (p < n) = first-type n p es same.1 below.1 l in
          (rw f o.0, o.1)
    ]

live-type : (n : ℕ) (h : Assignment) (p : ℕ) → AllEvents (λ e. e.id ≡ e.typ) h → AreBelow n h → 2 ≤ p → is_live h p ≡ true → (type_of h p ≡ p) × (p < n)
live-type n h p same below two live =
    let f : nat_lt p 2 ≡ false = le-ltb p 2 two in
    let k : nat_lt 0 (members h p) ≡ true = rw f at live in
    let o : (first_type p (events h) ≡ p) × (p < n) = first-type n p (events h) same below (ltb-true 0 (members h p) k) in
    (rw f o.0, o.1)

-- so where the ids are numbers of types, each type has a text
pub names-found : (types : List (List ℕ)) (h : Assignment) (xs : List Partition) → AllEvents (λ e. e.id ≡ e.typ) h → AreBelow (length types + 2) h → ArePartitions xs h
    → AllByRecursion (λ p. 2 ≤ p.id → HasText types p.typ) xs
names-found types h xs same below partitions = all-members (λ p. 2 ≤ p.id → HasText types p.typ) xs (λ p c two.
    let m : (is_live h p.id ≡ true) × (p ≡ partition_of h p.id) = (partitions.members p).0 c in
    let o : (type_of h p.id ≡ p.id) × (p.id < length types + 2) = live-type (length types + 2) h p.id same below two m.0 in
    let t : p.typ ≡ p.id = ap (λ (x : Partition). x.typ) m.1 ∙ o.0 in
    let l : p.id < length types + 2 = o.1 in
    let i : p.typ - 2 < length types = omega arith in
    (omega arith, ap is_some (slice_get-get_or types (p.typ - 2) [] i)))
