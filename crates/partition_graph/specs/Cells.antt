-- The cells of events, one trace after another.
use Rattle.std.specs.Prelude.{ℕ, ◌≡◌, ◌<◌, ◌≤◌, ◌==◌, ◌&&◌, Bool, true, false, ◌+◌, if◌then◌else◌, List, [], ◌∷◌, length, take, slice_index}
use Rattle.std.specs.List.{flat_map, AllByRecursion}
use Rattle.limits.specs.declared.TheConstants.{TERMINAL, FIRST_TYPE}
use Rattle.traces.specs.Words.{Log}
use Rattle.partition_model.specs.Assignments.{Event, Assignment}
use Rattle.partition_model.specs.Coarsening.{onto}
use Rattle.partition_graph.specs.declared.cells.Cell.{Cell}
use Rattle.partition_graph.specs.Parts.{inner_words_of}

-- the event of a cell
abbrev pub event_of : Cell → Event
event_of c = record { typ = c.typ; id = c.id }

-- an event prepended to the first trace
abbrev pub put_before : Event → Assignment → Assignment
put_before e [] = (e ∷ []) ∷ []
put_before e (t ∷ h) = (e ∷ t) ∷ h

-- the traces of cells: a trace ends after each cell marked as its last
abbrev pub traces_of : List Cell → Assignment
traces_of [] = []
traces_of (c ∷ cs) = if c.last then (event_of c ∷ []) ∷ traces_of cs else put_before (event_of c) (traces_of cs)

-- the last cell ends its trace; if there are no cells, the flag is true
abbrev pub IsClosed : Bool → List Cell → Type 0
IsClosed ended [] = ended ≡ true
IsClosed ended (c ∷ cs) = IsClosed c.last cs

-- whether the list is empty
abbrev pub is_end : List ℕ → Bool
is_end [] = true
is_end (n ∷ ns) = false

-- the cell of an event that does not end its trace, with the type's number as its id
abbrev pub inner_cell : ℕ → Cell
inner_cell n = record { typ = n; last = false; id = n }

-- the cells of a trace, with the types' numbers as ids
abbrev pub cells_of : List ℕ → List Cell
cells_of [] = []
cells_of (n ∷ ns) = record { typ = n; last = is_end ns; id = n } ∷ cells_of ns

-- the cells of the first traces of a log, and where each of these begins; the types' numbers are below the bound
pub record IsGathered (bound : ℕ) (words : List (List ℕ)) (traces : ℕ) (cells : List Cell) (firsts : List ℕ) : Type 0 where
  pub cells_are : cells ≡ flat_map cells_of (take traces words)
  pub count : length firsts ≡ traces
  pub firsts_are : (t : ℕ) → t < traces → slice_index firsts t ≡ length (flat_map cells_of (take t words))
  pub some : AllByRecursion (λ w. 0 < length w) (take traces words)
  pub numbered : AllByRecursion (λ w. AllByRecursion (λ n. (FIRST_TYPE ≤ n) × (n < bound)) w) (take traces words)

-- the same for a log, whose type numbers start at FIRST_TYPE
abbrev pub IsGatheredOf : Log → ℕ → List Cell → List ℕ → Type 0
IsGatheredOf log traces cells firsts = IsGathered (length log.types + FIRST_TYPE) (inner_words_of log) traces cells firsts

-- the id of the first cell, or TERMINAL if there is none
abbrev pub first_id : List Cell → ℕ
first_id [] = TERMINAL
first_id (c ∷ cs) = c.id

-- the id directly after the first cell: that of the next cell, or TERMINAL if the trace ends
abbrev pub id_behind : List Cell → ℕ
id_behind [] = TERMINAL
id_behind (c ∷ cs) = if c.last then TERMINAL else first_id cs

-- the same cells, but those of p that are directly followed by q have the id n
abbrev pub moved_cells : ℕ → ℕ → ℕ → List Cell → List Cell
moved_cells p q n [] = []
moved_cells p q n (c ∷ cs) =
    record { typ = c.typ; last = c.last; id = if c.id == p && id_behind (c ∷ cs) == q then n else c.id }
    ∷ moved_cells p q n cs

-- the same cells, but those of q have the id p
abbrev pub joined_cells : ℕ → ℕ → List Cell → List Cell
joined_cells p q [] = []
joined_cells p q (c ∷ cs) = record { typ = c.typ; last = c.last; id = onto p q c.id } ∷ joined_cells p q cs
