-- The partitions and the edges of an assignment, as lists.
use Rattle.std.specs.Prelude.{ℕ, suc, ◌≡◌, ◌≢◌, ◌↔◌, ◌<◌, ◌≤◌, ◌⊎◌, true, nat_lt, List, [], ◌∷◌, length, map, filter, take, Contains, sum_by}
use Rattle.std.specs.List.{flat_map, range_with_len, AllByRecursion}
use Rattle.limits.specs.declared.TheConstants.{INITIAL, TERMINAL, FIRST_TYPE}
use Rattle.invariants.specs.declared.records.Partition.{Partition}
use Rattle.invariants.specs.declared.records.Edge.{Edge}
use Rattle.partition_model.specs.Assignments.{Assignment, IsTyped, events, edge_count, size, type_of, is_live, ids_of}

-- the ids below n, ascending
abbrev pub ids_below : ℕ → List ℕ
ids_below n = range_with_len 0 n

-- an id with its type and its size
abbrev pub partition_of : Assignment → ℕ → Partition
partition_of h p = record { id = p; typ = type_of h p; count = size h p }

-- the partitions with ids below n, ascending
abbrev pub partitions_below : ℕ → Assignment → List Partition
partitions_below n h = map (partition_of h) (filter (is_live h) (ids_below n))

-- the edge from p to q, with the number of places at which q directly follows p
abbrev pub edge_between : Assignment → ℕ → ℕ → Edge
edge_between h p q = record { from = p; to = q; count = edge_count h p q }

-- the edges from p to ids below n, ascending
abbrev pub edges_from : ℕ → Assignment → ℕ → List Edge
edges_from n h p = map (edge_between h p) (filter (λ q. nat_lt 0 (edge_count h p q)) (ids_below n))

-- the edges between ids below n, ascending
abbrev pub edges_below : ℕ → Assignment → List Edge
edges_below n h = flat_map (edges_from n h) (ids_below n)

-- the id of each event, trace after trace
abbrev pub parts_of : Assignment → List ℕ
parts_of h = ids_of (events h)

-- the number of a trace's first event, where events are numbered trace after trace
abbrev pub first_event : Assignment → ℕ → ℕ
first_event h t = length (events (take t h))

-- the event with this number is the last of its trace
pub record IsLast (h : Assignment) (event : ℕ) : Type 0 where
  pub trace : ℕ
  pub there : trace < length h
  pub from : first_event h trace ≤ event
  pub last : first_event h (suc trace) ≡ suc event

-- each id of an event is below n
abbrev pub AreBelow : ℕ → Assignment → Type 0
AreBelow n h = AllByRecursion (λ e. e.id < n) (events h)

-- the ids ascend strictly, and the first is not below the bound
abbrev pub AscendIds : ℕ → List Partition → Type 0
AscendIds low [] = Unit {0}
AscendIds low (x ∷ xs) = (low ≤ x.id) × AscendIds (suc x.id) xs

-- the edges ascend strictly, and the first is not before (p, q)
abbrev pub AscendEdges : ℕ → ℕ → List Edge → Type 0
AscendEdges p q [] = Unit {0}
AscendEdges p q (x ∷ xs) = ((p < x.from) ⊎ ((p ≡ x.from) × (q ≤ x.to))) × AscendEdges x.from (suc x.to) xs

-- the list has the partitions of the assignment, once each, ascending
pub record ArePartitions (xs : List Partition) (h : Assignment) : Type 0 where
  pub order : AscendIds 0 xs
  pub members : (x : Partition) → Contains xs x ↔ ((is_live h x.id ≡ true) × (x ≡ partition_of h x.id))

-- the list has the edges of the assignment, once each, ascending
pub record AreEdges (xs : List Edge) (h : Assignment) : Type 0 where
  pub order : AscendEdges 0 0 xs
  pub members : (x : Edge) → Contains xs x ↔ ((0 < x.count) × (x ≡ edge_between h x.from x.to))

-- if all ids are below n, these lists have exactly the partitions and the edges
abbrev pub ListingsTell : Type 0
ListingsTell =
    (h : Assignment) (n : ℕ) → FIRST_TYPE ≤ n → AreBelow n h
    → ArePartitions (partitions_below n h) h × AreEdges (edges_below n h) h

-- if all ids are below n, the counts of the edges out of each id except TERMINAL add up to its size,
-- and so do the counts of the edges into each id except INITIAL
abbrev pub CountsAddUp : Type 0
CountsAddUp =
    (h : Assignment) (n : ℕ) → IsTyped h → FIRST_TYPE ≤ n → AreBelow n h
    → ((p : ℕ) → p ≢ TERMINAL → sum_by (λ q. edge_count h p q) (ids_below n) ≡ size h p)
    × ((q : ℕ) → q ≢ INITIAL → sum_by (λ p. edge_count h p q) (ids_below n) ≡ size h q)
