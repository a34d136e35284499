-- What the lists of a replay say of an assignment.
use Rattle.std.specs.Prelude.{ℕ, ◌≡◌, ◌+◌, ◌*◌, ◌<◌, ◌≤◌, nat_lt, Bool, true, false, List, length, slice_index, slice_index_or}
use Rattle.limits.specs.declared.TheConstants.{FIRST_TYPE, MAX_PARTITIONS}
use Rattle.bit_rows.specs.Tables.{row_at, is_set}
use Rattle.partition_model.specs.Graphs.{Graph}
use Rattle.partition_model.specs.Assignments.{Assignment, IsTyped, is_live, type_of, size, edge_count, renamed}
use Rattle.replay_check.specs.Laid.{laid, HaveIdsBelow}

-- the types of the live ids
abbrev pub HasTypes : Assignment → List ℕ → Type 0
HasTypes h types = (p : ℕ) → is_live h p ≡ true → slice_index types p ≡ type_of h p

-- the ids of an assignment, which are below n and have one type each, and their types
pub record Shows (h : Assignment) (n : ℕ) (ids types : List ℕ) : Type 0 where
  pub ids_are : ids ≡ laid h
  pub typed : IsTyped h
  pub high : FIRST_TYPE ≤ n
  pub below : HaveIdsBelow n h
  pub types_are : HasTypes h types

-- the flags say which ids are live, and the types are those of the live ids
pub record Knows (h : Assignment) (live : List Bool) (types : List ℕ) : Type 0 where
  pub typed : IsTyped h
  pub below : HaveIdsBelow MAX_PARTITIONS h
  pub live_are : (p : ℕ) → p < MAX_PARTITIONS → slice_index_or live p false ≡ is_live h p
  pub types_are : HasTypes h types

-- the count of an edge in a table with a row for each id
abbrev pub count_at : List ℕ → ℕ → ℕ → ℕ
count_at counts p q = slice_index counts (p * MAX_PARTITIONS + q)

-- a table of counts has a row for the id
abbrev pub HasRow : List ℕ → ℕ → Type 0
HasRow counts p = p * MAX_PARTITIONS + MAX_PARTITIONS ≤ length counts

-- whether the row of the first id has the second
abbrev pub has_edge : List (List Bool) → ℕ → ℕ → Bool
has_edge rows p q = is_set (row_at rows p) q

-- no edge is set
abbrev pub AreBlank : List (List Bool) → Type 0
AreBlank rows = (p q : ℕ) → p < MAX_PARTITIONS → has_edge rows p q ≡ false

-- the graph given by rows of edges and types of ids
abbrev pub graph_in : List (List Bool) → List ℕ → Graph
graph_in rows types =
    record {
      typ = λ p. slice_index types p;
      edge = λ p q. has_edge rows p q;
      listed = λ p. nat_lt p MAX_PARTITIONS;
    }

-- the rows are the edges of the assignment
abbrev pub HasEdges : Assignment → List (List Bool) → Type 0
HasEdges h rows = (p q : ℕ) → p < MAX_PARTITIONS → has_edge rows p q ≡ nat_lt 0 (edge_count h p q)

-- the counts are those of the edges of the assignment
abbrev pub HasCounts : Assignment → List ℕ → Type 0
HasCounts h counts = (p q : ℕ) → q < MAX_PARTITIONS → count_at counts p q ≡ edge_count h p q

-- the sizes are those of the ids of the assignment
abbrev pub HasSizes : Assignment → List ℕ → Type 0
HasSizes h sizes = (p : ℕ) → p < MAX_PARTITIONS → slice_index sizes p ≡ size h p

-- each number stands at the place with its own number
abbrev pub AreOwnPlaces : List ℕ → Type 0
AreOwnPlaces names = (p : ℕ) → p < MAX_PARTITIONS → slice_index names p ≡ p

-- each event gets the new name of its id
abbrev pub named_by : List ℕ → Assignment → Assignment
named_by names h = renamed (λ p. slice_index names p) h
