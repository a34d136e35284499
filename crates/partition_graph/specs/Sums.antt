-- What is counted over cells, as lists.
use Rattle.std.specs.Prelude.{ℕ, ◌≡◌, ◌<◌, ◌+◌, ◌^◌, List, slice_index}
use Rattle.limits.specs.declared.TheConstants.{MAX_PARTITIONS, INITIAL}
use Rattle.partition_graph.specs.declared.cells.Cell.{Cell}
use Rattle.partition_graph.specs.Marks.{count_in}
use Rattle.partition_graph.specs.Counts.{cells_with, last_type, edges_along}

-- the types and the sizes of ids, and the counts of edges
pub record Sums : Type 0 where
  pub types : List ℕ
  pub sizes : List ℕ
  pub counts : List ℕ

-- these lists
abbrev pub sums : List ℕ → List ℕ → List ℕ → Sums
sums types sizes counts = record { types = types; sizes = sizes; counts = counts }

-- there is room to count these cells as well
pub record HasRoom (s : Sums) (cells : List Cell) : Type 0 where
  pub sizes : (p : ℕ) → p < MAX_PARTITIONS → slice_index s.sizes p + cells_with p cells < 2 ^ 32
  pub counts : (p q : ℕ) → p < MAX_PARTITIONS → q < MAX_PARTITIONS
      → count_in s.counts p q + edges_along INITIAL cells p q < 2 ^ 32

-- the new sums count what the old ones do, and these cells as well
pub record IsMore (old new : Sums) (cells : List Cell) : Type 0 where
  pub types : (p : ℕ) → p < MAX_PARTITIONS
      → slice_index new.types p ≡ last_type p (slice_index old.types p) cells
  pub sizes : (p : ℕ) → p < MAX_PARTITIONS → slice_index new.sizes p ≡ slice_index old.sizes p + cells_with p cells
  pub counts : (p q : ℕ) → p < MAX_PARTITIONS → q < MAX_PARTITIONS
      → count_in new.counts p q ≡ count_in old.counts p q + edges_along INITIAL cells p q
