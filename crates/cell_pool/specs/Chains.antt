-- Lists of cells as chains of nodes: each cell is a node, and after the cells each list has a node that is its head.
use Rattle.std.specs.Prelude.{ℕ, zero, suc, ◌≡◌, ◌+◌, ◌-◌, ◌^◌, ◌<◌, ◌≤◌, ◌==◌, nat_lt, nat_le, if◌then◌else◌, List, [], ◌∷◌, length, map, All, slice_index, sum_by}
use Rattle.std.specs.List.{range_with_len}
use Rattle.cell_pool.specs.Tables.{row_at}

-- the cells that follow a node, up to the first node that is not a cell; the first number bounds how many
abbrev pub cells_behind : ℕ → ℕ → List ℕ → ℕ → List ℕ
cells_behind zero count next node = []
cells_behind (suc more) count next node =
    if nat_lt (slice_index next node) count
    then slice_index next node ∷ cells_behind more count next (slice_index next node)
    else []

-- each list: the cells that follow its head
abbrev pub table_of : List ℕ → ℕ → ℕ → List (List ℕ)
table_of next count lists =
    map (λ list. cells_behind count count next (count + list)) (range_with_len 0 lists)

-- one node follows another
abbrev pub IsLink : List ℕ → List ℕ → ℕ → ℕ → Type 0
IsLink next prev a b = (slice_index next a ≡ b) × (slice_index prev b ≡ a)

-- a chain leads from one node through these cells to another node
abbrev pub IsChain : List ℕ → List ℕ → ℕ → List ℕ → ℕ → Type 0
IsChain next prev a [] b = IsLink next prev a b
IsChain next prev a (x ∷ xs) b = IsLink next prev a x × IsChain next prev x xs b

-- each list is a chain from its head through cells back to its head
pub record IsLinked (next prev : List ℕ) (count lists : ℕ) (table : List (List ℕ)) : Type 0 where
  pub next_size : length next ≡ count + lists
  pub prev_size : length prev ≡ count + lists
  pub size : length table ≡ lists
  pub chains : (list : ℕ) → list < lists → IsChain next prev (count + list) (row_at table list) (count + list)
  pub cells : (list : ℕ) → list < lists → All (λ cell. cell < count) (row_at table list)

-- the same, the lists have at most count cells together, and there are fewer than 2^32 nodes
pub record IsTable (next prev : List ℕ) (count lists : ℕ) (table : List (List ℕ)) : Type 0 where
  pub linked : IsLinked next prev count lists table
  pub total : sum_by length table ≤ count
  pub limit : count + lists < 2 ^ 32

-- the node after a node when all cells are in the first list
abbrev pub next_at_start : ℕ → ℕ → ℕ
next_at_start count node = if nat_lt node count then node + 1 else (if node == count then 0 else node)

-- the node before a node when all cells are in the first list
abbrev pub prev_at_start : ℕ → ℕ → ℕ
prev_at_start count node = if node == 0 then count else (if nat_le node count then node - 1 else node)
