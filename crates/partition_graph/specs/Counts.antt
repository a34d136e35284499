-- The counts taken of cells.
use Rattle.std.specs.Prelude.{ℕ, zero, suc, ◌+◌, ◌==◌, ◌&&◌, ◌<◌, ◌≤◌, if◌then◌else◌, List, [], ◌∷◌, drop}
use Rattle.limits.specs.declared.TheConstants.{INITIAL, TERMINAL, FIRST_TYPE, MAX_PARTITIONS}
use Rattle.partition_graph.specs.declared.cells.Cell.{Cell}
use Rattle.partition_graph.specs.Cells.{id_behind}
use Rattle.partition_graph.specs.Members.{id_at}

-- the cell's id is that of a partition of events
abbrev pub HasId : Cell → Type 0
HasId c = (FIRST_TYPE ≤ c.id) × (c.id < MAX_PARTITIONS)

-- 1 if the edge from a to b is the edge from p to q, else 0
abbrev pub is_edge : ℕ → ℕ → ℕ → ℕ → ℕ
is_edge a b p q = if a == p && b == q then 1 else 0

-- how often the edge from p to q leads to the cell, or from the cell to TERMINAL
abbrev pub edges_at : ℕ → Cell → ℕ → ℕ → ℕ
edges_at before c p q = is_edge before c.id p q + (if c.last then is_edge c.id TERMINAL p q else 0)

-- the id before the next cell
abbrev pub before_next : Cell → ℕ
before_next c = if c.last then INITIAL else c.id

-- the id before the cell at a place; `before` is the id before the first cell
abbrev pub id_before : ℕ → List Cell → ℕ → ℕ
id_before before cells zero = before
id_before before [] (suc i) = before
id_before before (c ∷ cs) (suc i) = id_before (before_next c) cs i

-- how often the edge from p to q occurs in cells; `before` is the id before the first one
abbrev pub edges_along : ℕ → List Cell → ℕ → ℕ → ℕ
edges_along before [] p q = 0
edges_along before (c ∷ cs) p q = edges_at before c p q + edges_along (before_next c) cs p q

-- how often the edge from p to q leads to or from the cell at a place
abbrev pub edges_around : ℕ → List Cell → ℕ → ℕ → ℕ
edges_around k cells p q =
    is_edge (id_before INITIAL cells k) (id_at cells k) p q + is_edge (id_at cells k) (id_behind (drop k cells)) p q

-- how many cells have the id
abbrev pub cells_with : ℕ → List Cell → ℕ
cells_with p [] = 0
cells_with p (c ∷ cs) = (if c.id == p then 1 else 0) + cells_with p cs

-- the type of the last cell with the id, or the given type if there is none
abbrev pub last_type : ℕ → ℕ → List Cell → ℕ
last_type p typ [] = typ
last_type p typ (c ∷ cs) = last_type p (if c.id == p then c.typ else typ) cs
