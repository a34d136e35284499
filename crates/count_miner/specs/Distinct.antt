-- Counts of one trace for each word.
use Rattle.std.specs.Prelude.{ℕ, ◌≡◌, ◌<◌, false, List, [], Some, length, map, slice_get, slice_index, slice_index_or}
use Rattle.invariants.specs.declared.Invariant.{Invariant}
use Rattle.invariants.specs.Candidates.{candidates_for}
use Rattle.invariants.specs.Mined.{holds_of_all}
use Rattle.traces.specs.Words.{Trace, word_of}
use Rattle.count_miner.specs.Counts.{inner_words, AreCounts}
use Rattle.count_miner.specs.declared.counts.Counts.{Counts}

-- traces with the same number have the same events
abbrev pub NumberWords : List ℕ → List Trace → Type 0
NumberWords numbers traces =
    (s t : ℕ) → s < length traces → t < length traces → slice_index numbers s ≡ slice_index numbers t
    → slice_index_or (inner_words traces) s [] ≡ slice_index_or (inner_words traces) t []

-- the counts are those of traces that tell of each candidate whether it holds of all traces
pub record Suffice (counts : Counts) (traces : List Trace) : Type 0 where
  pub some : List Trace
  pub counted : AreCounts counts (inner_words some)
  pub same : (k : ℕ) (inv : Invariant) → slice_get (candidates_for counts.kinds counts.types) k ≡ Some inv
      → holds_of_all (map word_of some) inv ≡ holds_of_all (map word_of traces) inv

-- no candidate holds of all traces that were counted
abbrev pub NoneHolds : Counts → Type 0
NoneHolds counts =
    (some : List Trace) → AreCounts counts (inner_words some) → (k : ℕ) (inv : Invariant)
    → slice_get (candidates_for counts.kinds counts.types) k ≡ Some inv → holds_of_all (map word_of some) inv ≡ false
