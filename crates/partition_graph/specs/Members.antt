-- The cells of each id.
use Rattle.std.specs.Prelude.{ℕ, zero, suc, ◌≡◌, ◌≢◌, ◌<◌, ◌≤◌, List, [], ◌∷◌, length, Contains}
use Rattle.limits.specs.declared.TheConstants.{MAX_EVENTS, MAX_PARTITIONS}
use Rattle.cell_pool.specs.Tables.{row_at, HasCells}
use Rattle.partition_graph.specs.declared.cells.Cell.{Cell}

-- the id of the cell at a place
abbrev pub id_at : List Cell → ℕ → ℕ
id_at [] k = 0
id_at (c ∷ cs) zero = c.id
id_at (c ∷ cs) (suc k) = id_at cs k

-- no cell has the id
abbrev pub HasNone : ℕ → List Cell → Type 0
HasNone id cells = (k : ℕ) → k < length cells → id_at cells k ≢ id

-- the same cells, but the one at a place has another id
abbrev pub given : ℕ → ℕ → List Cell → List Cell
given id k [] = []
given id zero (c ∷ cs) = record { typ = c.typ; last = c.last; id = id } ∷ cs
given id (suc k) (c ∷ cs) = c ∷ given id k cs

-- every cell stands in exactly one list, the one with the number of its id
pub record AreMembers (lists : List (List ℕ)) (cells : List Cell) : Type 0 where
  pub few : length cells ≤ MAX_EVENTS
  pub size : length lists ≡ MAX_PARTITIONS
  pub held : HasCells lists (length cells)
  pub owners : (id k : ℕ) → Contains (row_at lists id) k → id_at cells k ≡ id

-- every cell stands in list 0
pub record AreUnsorted (lists : List (List ℕ)) (count : ℕ) : Type 0 where
  pub size : length lists ≡ MAX_PARTITIONS
  pub held : HasCells lists count
  pub others : (id k : ℕ) → Contains (row_at lists id) k → id ≡ 0
