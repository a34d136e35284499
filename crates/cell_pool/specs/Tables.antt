-- Lists of cells, as contracts see them.
use Rattle.std.specs.Prelude.{ℕ, ◌≡◌, ◌<◌, ◌==◌, not, List, [], length, filter, slice_index_or, slice_get, Some, All, Contains}

-- the list with this number; past the last list it is empty
abbrev pub row_at : List (List ℕ) → ℕ → List ℕ
row_at table list = slice_index_or table list []

-- the cells of a list but one, in their order
abbrev pub without : List ℕ → ℕ → List ℕ
without cells cell = filter (λ x. not (x == cell)) cells

-- the cell is in one of the lists
abbrev pub StandsIn : List (List ℕ) → ℕ → Type 0
StandsIn table cell = (list : ℕ) × (list < length table) × Contains (row_at table list) cell

-- the lists have the cells below count and no others, and each of them exactly once
pub record HasCells (table : List (List ℕ)) (count : ℕ) : Type 0 where
  pub each : (cell : ℕ) → cell < count → StandsIn table cell
  pub only : (list : ℕ) → All (λ cell. cell < count) (row_at table list)
  pub once : (list other place place' cell : ℕ) → slice_get (row_at table list) place ≡ Some cell
      → slice_get (row_at table other) place' ≡ Some cell → (list ≡ other) × (place ≡ place')

-- the lists still have the cells that they had, and each of them exactly once
abbrev pub KeepsCells : List (List ℕ) → List (List ℕ) → Type 0
KeepsCells old new = (count : ℕ) → HasCells old count → HasCells new count
