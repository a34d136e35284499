-- Traces that share their words.
use Rattle.std.specs.Prelude.{ℕ, ◌≡◌, ◌<◌, ◌+◌, List, [], length, map, slice_index_or, All, Contains}
use Rattle.limits.specs.declared.TheConstants.{FIRST_TYPE}
use Rattle.traces.specs.Words.{Log}
use Rattle.partition_model.specs.Assignments.{Assignment, by_type, inner_words}
use Rattle.partition_graph.specs.Parts.{Parts, inner_words_of}

-- the traces with these numbers, one per number
abbrev pub spread : List ℕ → Assignment → Assignment
spread numbers h = map (λ k. slice_index_or h k []) numbers

-- each number is that of a trace, and every trace's number occurs
pub record AreAllOf (numbers : List ℕ) (h : Assignment) : Type 0 where
  pub within : All (λ k. k < length h) numbers
  pub whole : (k : ℕ) → k < length h → Contains numbers k

-- the first graph of the words of a log, and for each trace of the log the number of its word
pub record SharesWords (log : Log) (parts : Parts) (numbers : List ℕ) : Type 0 where
  pub used : parts.used ≡ length log.types + FIRST_TYPE
  pub start : parts.traces ≡ by_type (inner_words parts.traces)
  pub spreads : spread numbers parts.traces ≡ by_type (inner_words_of log)
  pub all : AreAllOf numbers parts.traces
