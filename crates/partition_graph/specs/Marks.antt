-- The counts of edges, and the rows that mark which counts are above 0.
use Rattle.std.specs.Prelude.{ℕ, ◌≡◌, ◌+◌, ◌*◌, ◌<◌, ◌≤◌, ◌&&◌, Bool, nat_lt, List, slice_index, Vec, vec_capacity}
use Rattle.limits.specs.declared.TheConstants.{MAX_PARTITIONS}
use Rattle.bit_rows.specs.Tables.{row_at, is_set, HasShape}

-- the count of the edge from p to q; the table is ordered by target
abbrev pub count_in : List ℕ → ℕ → ℕ → ℕ
count_in counts p q = slice_index counts (q * MAX_PARTITIONS + p)

-- whether the edge from p to q is counted
abbrev pub is_counted : List ℕ → ℕ → ℕ → Bool
is_counted counts p q = nat_lt p MAX_PARTITIONS && (nat_lt q MAX_PARTITIONS && nat_lt 0 (count_in counts p q))

-- every count is 0
abbrev pub NoneCounted : List ℕ → Type 0
NoneCounted counts = (p q : ℕ) → p < MAX_PARTITIONS → q < MAX_PARTITIONS → count_in counts p q ≡ 0

-- the memory has room for the count of every edge
abbrev pub HasEdgeRoom : {A : Type 0} → Vec ℕ A → Type 0
HasEdgeRoom counts = MAX_PARTITIONS * MAX_PARTITIONS ≤ vec_capacity counts

-- a row for each id, with a bit for each id
abbrev pub HasIdRows : List (List Bool) → Type 0
HasIdRows rows = HasShape rows MAX_PARTITIONS MAX_PARTITIONS

-- row q of the sources marks the ids with a counted edge to q; row p of the targets marks those with a counted
-- edge from p
pub record IsMarked (counts : List ℕ) (sources targets : List (List Bool)) : Type 0 where
  pub source_rows : HasIdRows sources
  pub target_rows : HasIdRows targets
  pub sources_are : (p q : ℕ) → p < MAX_PARTITIONS → q < MAX_PARTITIONS
      → is_set (row_at sources q) p ≡ nat_lt 0 (count_in counts p q)
  pub targets_are : (p q : ℕ) → p < MAX_PARTITIONS → q < MAX_PARTITIONS
      → is_set (row_at targets p) q ≡ nat_lt 0 (count_in counts p q)

-- the rows are the old ones, except that bit i of row r is this one
pub record IsWithBit (r i : ℕ) (bit : Bool) (old new : List (List Bool)) : Type 0 where
  pub rows : HasIdRows new
  pub here : is_set (row_at new r) i ≡ bit
  pub others : (s j : ℕ) → (s ≡ r → j ≡ i → ⊥) → is_set (row_at new s) j ≡ is_set (row_at old s) j
