-- The cells of words that traces share, and of traces that are copied.
use Rattle.std.specs.Prelude.{ℕ, ◌≡◌, ◌<◌, ◌≤◌, ◌+◌, if◌then◌else◌, Option, MatchOption, List, [], ◌∷◌, ◌++◌, length, map, take, slice_index, slice_index_or, All, Contains}
use Rattle.std.specs.List.{flat_map}
use Rattle.limits.specs.declared.TheConstants.{FIRST_TYPE}
use Rattle.traces.specs.Words.{Log}
use Rattle.partition_graph.specs.declared.cells.Cell.{Cell}
use Rattle.partition_graph.specs.declared.cells.SharedCells.{SharedCells}
use Rattle.partition_graph.specs.Cells.{cells_of, IsGathered}
use Rattle.partition_graph.specs.Parts.{inner_words_of}

-- the next trace gets the number of an earlier one, and there are no more cells
pub record IsMet (t : ℕ) (old new : SharedCells) : Type 0 where
  pub cells_are : new.cells.items ≡ old.cells.items
  pub firsts_are : new.firsts.items ≡ old.firsts.items
  pub numbers_are : new.numbers.items ≡ old.numbers.items ++ slice_index old.numbers.items t ∷ []

-- the next trace gets the number of a new word, whose cells follow the others
pub record IsAdded (word : List ℕ) (old new : SharedCells) : Type 0 where
  pub cells_are : new.cells.items ≡ old.cells.items ++ cells_of word
  pub firsts_are : new.firsts.items ≡ old.firsts.items ++ length old.cells.items ∷ []
  pub numbers_are : new.numbers.items ≡ old.numbers.items ++ length old.firsts.items ∷ []

-- the word of the next trace is that of an earlier one, if one is known, and otherwise a new one
abbrev pub IsNoted : List ℕ → Option ℕ → SharedCells → SharedCells → Type 0
IsNoted word earlier old new = MatchOption earlier (IsAdded word old new) (λ t. IsMet t old new)

-- the cells of words, and for each of the first traces of a log the number of its word
pub record AreShared (log : Log) (traces : ℕ) (words : List (List ℕ)) (cells : List Cell) (firsts numbers : List ℕ) : Type 0 where
  pub gathered : IsGathered (length log.types + FIRST_TYPE) words (length words) cells firsts
  pub spreads : map (λ k. slice_index_or words k []) numbers ≡ take traces (inner_words_of log)
  pub within : All (λ k. k < length words) numbers
  pub whole : (k : ℕ) → k < length words → Contains numbers k
  pub few : length words ≤ traces
  pub small : length cells ≤ length (flat_map cells_of (take traces (inner_words_of log)))

-- a cell in front of the first trace
abbrev pub put_cell : Cell → List (List Cell) → List (List Cell)
put_cell c [] = (c ∷ []) ∷ []
put_cell c (t ∷ ts) = (c ∷ t) ∷ ts

-- the cells of each trace, cut after each cell that is the last of its trace
abbrev pub trace_cells : List Cell → List (List Cell)
trace_cells [] = []
trace_cells (c ∷ cs) = if c.last then (c ∷ []) ∷ trace_cells cs else put_cell c (trace_cells cs)

-- one after another
abbrev pub joined_traces : List (List Cell) → List Cell
joined_traces traces = flat_map (λ trace. trace) traces

-- where each of these traces begins
pub record Begin (firsts : List ℕ) (traces : List (List Cell)) : Type 0 where
  pub count : length firsts ≡ length traces
  pub firsts_are : (t : ℕ) → t < length traces → slice_index firsts t ≡ length (joined_traces (take t traces))

-- the traces with these numbers, one for each number
abbrev pub picked : List ℕ → List (List Cell) → List (List Cell)
picked numbers traces = map (λ k. slice_index_or traces k []) numbers
