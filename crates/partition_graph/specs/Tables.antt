-- Tables of the counts of cells.
use Rattle.std.specs.Prelude.{ℕ, ◌≡◌, ◌<◌, ◌+◌, ◌==◌, if◌then◌else◌, List, length, slice_index}
use Rattle.limits.specs.declared.TheConstants.{MAX_PARTITIONS, INITIAL}
use Rattle.partition_model.specs.Assignments.{Assignment, edge_count, events, first_type, members}
use Rattle.partition_graph.specs.declared.cells.Cell.{Cell}
use Rattle.partition_graph.specs.declared.tables.Tables.{Tables}
use Rattle.partition_graph.specs.Marks.{count_in}
use Rattle.partition_graph.specs.Members.{id_at}
use Rattle.partition_graph.specs.Counts.{cells_with, last_type, edges_along, edges_around}
use Rattle.partition_graph.specs.Sums.{sums, HasRoom, IsMore, Sums}

-- the type of an id
abbrev pub type_at : Tables → ℕ → ℕ
type_at t p = slice_index t.types.items p

-- the size of an id
abbrev pub size_at : Tables → ℕ → ℕ
size_at t p = slice_index t.sizes.items p

-- the count of the edge from p to q
abbrev pub count_at : Tables → ℕ → ℕ → ℕ
count_at t p q = count_in t.counts p q

-- every type, size and count is 0
pub record IsClear (t : Tables) : Type 0 where
  pub types : (p : ℕ) → p < MAX_PARTITIONS → type_at t p ≡ 0
  pub sizes : (p : ℕ) → p < MAX_PARTITIONS → size_at t p ≡ 0
  pub counts : (p q : ℕ) → p < MAX_PARTITIONS → q < MAX_PARTITIONS → count_at t p q ≡ 0

-- the type and size of each id, and the count of each edge, are those of the cells
pub record IsCountOf (t : Tables) (cells : List Cell) : Type 0 where
  pub types : (p : ℕ) → p < MAX_PARTITIONS → type_at t p ≡ last_type p 0 cells
  pub sizes : (p : ℕ) → p < MAX_PARTITIONS → size_at t p ≡ cells_with p cells
  pub counts : (p q : ℕ) → p < MAX_PARTITIONS → q < MAX_PARTITIONS
      → count_at t p q ≡ edges_along INITIAL cells p q

-- the sums of tables
abbrev pub sums_of : Tables → Sums
sums_of t = sums t.types.items t.sizes.items t.counts

-- there is room to count these cells as well
abbrev pub HasRoomFor : Tables → List Cell → Type 0
HasRoomFor t cells = HasRoom (sums_of t) cells

-- the new tables count what the old ones do, and these cells as well
abbrev pub IsCountMore : Tables → Tables → List Cell → Type 0
IsCountMore old new cells = IsMore (sums_of old) (sums_of new) cells

-- the type and size of each id, and the count of each edge, are those of this assignment, which has so many traces
pub record IsCountedFor (t : Tables) (traces : ℕ) (h : Assignment) : Type 0 where
  pub traces_are : traces ≡ length h
  pub types_are : (p : ℕ) → p < MAX_PARTITIONS → type_at t p ≡ first_type p (events h)
  pub sizes_are : (p : ℕ) → p < MAX_PARTITIONS → size_at t p ≡ members h p
  pub counts_are : (p q : ℕ) → p < MAX_PARTITIONS → q < MAX_PARTITIONS → count_at t p q ≡ edge_count h p q

-- the sizes and the edge counts are those of the cells
pub record HasCountsOf (t : Tables) (cells : List Cell) : Type 0 where
  pub sizes : (p : ℕ) → p < MAX_PARTITIONS → size_at t p ≡ cells_with p cells
  pub counts : (p q : ℕ) → p < MAX_PARTITIONS → q < MAX_PARTITIONS
      → count_at t p q ≡ edges_along INITIAL cells p q

-- the same, once the cell at a place and the edges to and from it are added to the counts
pub record HasCountsBut (t : Tables) (k : ℕ) (cells : List Cell) : Type 0 where
  pub sizes : (p : ℕ) → p < MAX_PARTITIONS
      → size_at t p + (if id_at cells k == p then 1 else 0) ≡ cells_with p cells
  pub counts : (p q : ℕ) → p < MAX_PARTITIONS → q < MAX_PARTITIONS
      → count_at t p q + edges_around k cells p q ≡ edges_along INITIAL cells p q
