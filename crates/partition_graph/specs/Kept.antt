-- What a partition graph keeps.
use Rattle.std.specs.Prelude.{ℕ, ◌≡◌, ◌<◌, ◌≤◌, true, List, length, slice_index}
use Rattle.limits.specs.declared.TheConstants.{FIRST_TYPE, MAX_EVENTS, MAX_PARTITIONS}
use Rattle.partition_model.specs.Assignments.{events, members, first_type, edge_count, IsTyped}
use Rattle.partition_model.specs.Listings.{first_event, AreBelow}
use Rattle.partition_graph.specs.declared.cells.Cell.{Cell}
use Rattle.partition_graph.specs.declared.tables.Tables.{Tables}
use Rattle.partition_graph.specs.Cells.{traces_of, IsClosed}
use Rattle.partition_graph.specs.Tables.{type_at, size_at, count_at}

-- the first events, and the type, size and edge counts of each id, are those of the traces of the cells
pub record IsKept (cells : List Cell) (firsts : List ℕ) (tables : Tables) (used : ℕ) : Type 0 where
  pub two : FIRST_TYPE ≤ used
  pub limit : used ≤ MAX_PARTITIONS
  pub few : length cells ≤ MAX_EVENTS
  pub closed : IsClosed true cells
  pub typed : IsTyped (traces_of cells)
  pub below : AreBelow used (traces_of cells)
  pub first_count : length firsts ≡ length (traces_of cells)
  pub firsts_are : (t : ℕ) → t < length firsts
      → slice_index firsts t ≡ first_event (traces_of cells) t
  pub types_are : (p : ℕ) → p < MAX_PARTITIONS
      → type_at tables p ≡ first_type p (events (traces_of cells))
  pub sizes_are : (p : ℕ) → p < MAX_PARTITIONS
      → size_at tables p ≡ members (traces_of cells) p
  pub counts_are : (p q : ℕ) → p < MAX_PARTITIONS → q < MAX_PARTITIONS
      → count_at tables p q ≡ edge_count (traces_of cells) p q
