-- Sets of pairs.
use Rattle.std.specs.Prelude.{ℕ, ◌≡◌, ◌+◌, ◌*◌, ◌/◌, ◌%◌, ◌<◌, ◌⊎◌, ◌==◌, Bool, true, false, slice_index}
use Rattle.std.specs.Int.{bit_at}
use Rattle.limits.specs.declared.TheConstants.{MAX_PARTITIONS}
use Rattle.partition_graph.specs.declared.id_rows.TheConstants.{ID_WORDS}
use Rattle.path_finder.specs.declared.pair.Pair.{Pair}
use Rattle.path_finder.specs.declared.pair_set.TheConstants.{PAIR_WORDS}
use Rattle.path_finder.specs.declared.pair_set.PairSet.{PairSet}
use Rattle.path_finder.specs.declared.pair_set.Part.{Part}

-- the place of the word that has the bit of the pair: the words of each state follow those of the state before
abbrev pub word_of : Pair → ℕ
word_of r = r.state * ID_WORDS + r.id / 64

-- whether the set has the pair
abbrev pub has_pair : PairSet → Pair → Bool
has_pair s r = bit_at (slice_index s.words (word_of r)) (r.id % 64) == 1

-- whether the set has the pair of the state and the id
abbrev pub has_in : PairSet → ℕ → ℕ → Bool
has_in s state id = has_pair s (record { id = id; state = state })

-- a word without a mark has no pair
abbrev pub IsMarked : PairSet → Type 0
IsMarked s = (w : ℕ) → w < PAIR_WORDS → (bit_at s.marks w == 1) ≡ false → slice_index s.words w ≡ 0

-- the set has no pair
pub record IsEmptySet (s : PairSet) : Type 0 where
  pub marked : IsMarked s
  pub none : (r : Pair) → r.state < 3 → r.id < MAX_PARTITIONS → has_pair s r ≡ false

-- the pair has the state of the part, and the bit of its id is on in the word
pub record IsAmong (part : Part) (r : Pair) : Type 0 where
  pub state : r.state ≡ part.state
  pub place : r.id / 64 ≡ part.place
  pub bit : (bit_at part.word (r.id % 64) == 1) ≡ true

-- the pairs of the part were added
pub record IsAdded (old new : PairSet) (part : Part) : Type 0 where
  pub kept : (r : Pair) → has_pair old r ≡ true → has_pair new r ≡ true
  pub added : (r : Pair) → IsAmong part r → has_pair new r ≡ true
  pub others : (r : Pair) → r.id < MAX_PARTITIONS → has_pair new r ≡ true
      → (has_pair old r ≡ true) ⊎ IsAmong part r

-- the pairs of the part were taken out
pub record IsTaken (old new : PairSet) (part : Part) : Type 0 where
  pub state : part.state < 3
  pub place : part.place < ID_WORDS
  pub had : (r : Pair) → IsAmong part r → has_pair old r ≡ true
  pub kept : (r : Pair) → has_pair new r ≡ true → has_pair old r ≡ true
  pub left : (r : Pair) → r.state < 3 → r.id < MAX_PARTITIONS → has_pair old r ≡ true
      → (has_pair new r ≡ true) ⊎ IsAmong part r
  pub fewer : new.marks < old.marks
