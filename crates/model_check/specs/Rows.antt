-- The rows of ids, and the graph that they represent.
use Rattle.std.specs.Prelude.{ℕ, ◌≡◌, ◌≢◌, ◌+◌, ◌<◌, ◌≤◌, ◌==◌, ◌&&◌, ◌||◌, nat_lt, Bool, true, false, List, [], ◌∷◌, length, slice_index}
use Rattle.limits.specs.declared.TheConstants.{INITIAL, MAX_PARTITIONS}
use Rattle.invariants.specs.declared.records.Partition.{Partition}
use Rattle.invariants.specs.declared.records.Edge.{Edge}
use Rattle.bit_rows.specs.Tables.{row_at, is_set}
use Rattle.partition_model.specs.Graphs.{Graph}
use Rattle.model_shape.specs.Shapes.{is_listed}
use Rattle.model_check.specs.declared.rows.IdRows.{IdRows}
use Rattle.model_check.specs.declared.sets.TheConstants.{MEMBERS, LISTED, TYPES}

-- the bit at place k of row r
abbrev pub cell : List (List Bool) → ℕ → ℕ → Bool
cell rows r k = is_set (row_at rows r) k

-- whether the id k is in row r
abbrev pub bit : IdRows → ℕ → ℕ → Bool
bit rows r k = cell rows.bits r k

-- p is the least id of the row that is not below a number
pub record IsNextIn (rows : IdRows) (r from p : ℕ) : Type 0 where
  pub behind : from ≤ p
  pub within : p < MAX_PARTITIONS
  pub set : bit rows r p ≡ true
  pub first : (k : ℕ) → from ≤ k → k < p → bit rows r k ≡ false

-- p is the least id of a type that is not below a number
pub record IsNextOfType (typ_of : ℕ → ℕ) (typ from p : ℕ) : Type 0 where
  pub behind : from ≤ p
  pub within : p < MAX_PARTITIONS
  pub there : typ_of p ≡ typ
  pub first : (q : ℕ) → from ≤ q → q < p → typ_of q ≢ typ

-- the partition has a place in the rows
abbrev pub IsMarkable : Partition → Type 0
IsMarkable x = (x.id < MAX_PARTITIONS) × (x.typ < TYPES)

-- the edge has a place in the rows
abbrev pub IsEdgeWithin : Edge → Type 0
IsEdgeWithin x = (x.from < MAX_PARTITIONS) × (x.to < MAX_PARTITIONS)

-- no two partitions have the same id
abbrev pub AreApart : List Partition → Type 0
AreApart [] = Unit {0}
AreApart (x ∷ xs) = (is_listed x.id xs ≡ false) × AreApart xs

-- whether row r has the id k: some partition has this id, and r is the row of all partitions or that of its type
abbrev pub marked : ℕ → ℕ → List Partition → Bool
marked r k [] = false
marked r k (x ∷ xs) =
    (LISTED == r && x.id == k) || (MEMBERS + x.typ == r && x.id == k) || marked r k xs

-- the type of each id, and the rows
pub record Tables : Type 0 where
  pub types : List ℕ
  pub rows : List (List Bool)

-- the graph that they represent
abbrev pub shown : Tables → Graph
shown t =
    record {
      typ = λ p. slice_index t.types p;
      edge = λ p q. nat_lt p MAX_PARTITIONS && cell t.rows p q;
      listed = λ p. cell t.rows LISTED p;
    }

-- each id has a type, and the row of a type has exactly the ids of this type
pub record IsLaid (types : List ℕ) (rows : IdRows) : Type 0 where
  pub size : length types ≡ MAX_PARTITIONS
  pub members : (x q : ℕ) → INITIAL < x → x < TYPES → bit rows (MEMBERS + x) q ≡ (slice_index types q == x)
