-- What refinement needs, and what it leaves.
use Rattle.std.specs.Prelude.{◌≡◌, ℕ, ◌+◌, ◌<◌, ◌≤◌, Bool, true, false, not, List, [], count_by, length, map, slice_get, slice_index, slice_index_or, Some}
use Rattle.std.specs.List.{range_with_len}
use Rattle.limits.specs.declared.TheConstants.{FIRST_TYPE, MAX_PARTITIONS}
use Rattle.invariants.specs.declared.Invariant.{Invariant}
use Rattle.invariants.specs.declared.records.Split.{Split}
use Rattle.invariants.specs.declared.Kinds.{Kinds}
use Rattle.invariants.specs.Mined.{mined_for}
use Rattle.traces.specs.Words.{Log, words_of}
use Rattle.partition_model.specs.Graphs.{Graph, Satisfies}
use Rattle.partition_model.specs.Assignments.{Assignment, G, by_type, events, inner_words}
use Rattle.partition_model.specs.Laws.{HoldAll, NamesRests}
use Rattle.partition_model.specs.Refinement.{Splits, Refines, SatisfiesAll, IsNextSplit, stitch}
use Rattle.partition_graph.specs.Parts.{Parts, divided, start_of}
use Rattle.partition_graph.specs.Starts.{AreTypedParts}

-- the graph is the first one of its words, each event has the number of a type, and each such number is that of an
-- event
pub record IsOpened (parts : Parts) : Type 0 where
  pub start : parts.traces ≡ by_type (inner_words parts.traces)
  pub typed : AreTypedParts parts

-- how many events the traces have
abbrev pub event_count : Parts → ℕ
event_count parts = length (events parts.traces)

-- the parts after a split: the events at its place that go on along its path get a new id
abbrev pub after : Split → Parts → Parts
after s parts = divided (slice_index s.path s.place) (slice_index s.path (s.place + 1)) parts

-- the split for the invariant with this number by this path, at the stitch of the path
abbrev pub split_by : Parts → List ℕ → ℕ → Split
split_by parts path number = record { inv = number; place = stitch parts.traces path; path = path }

-- whether the flag says that the graph satisfies the invariant with this number
abbrev pub is_known : List Bool → ℕ → Bool
is_known known k = slice_index_or known k false

-- the graph satisfies each invariant whose flag is set
abbrev pub AreKnown : List Bool → List Invariant → Graph → Type 0
AreKnown known invs g =
    (k : ℕ) (inv : Invariant) → slice_get invs k ≡ Some inv → is_known known k ≡ true → Satisfies g inv

-- how many of the first n invariants have no flag set
abbrev pub asked_count : List Bool → ℕ → ℕ
asked_count known n = count_by (λ b. not b) (map (λ k. is_known known k) (range_with_len 0 n))

-- the splits are the complete run of refinement, each adds one id, and the ids suffice
pub record EndsRefined (invs : List Invariant) (old : Parts) (splits : List Split)
    (new : Parts) : Type 0 where
  pub run : Refines invs old.traces old.used splits new.traces
  pub used : new.used ≡ old.used + length splits
  pub within : new.used ≤ MAX_PARTITIONS

-- the splits are the first steps of refinement, and each adds one id; at most one step is counted per invariant and one
-- per split
pub record IsStopped (invs : List Invariant) (old new : Parts) (splits : List Split)
    (counted : ℕ) : Type 0 where
  pub run : Splits invs old.traces old.used splits new.traces
  pub used : new.used ≡ old.used + length splits
  pub steps : counted ≤ length invs + length splits

-- all ids are used, and refinement needs a further split
pub record IsFull (invs : List Invariant) (new : Parts) : Type 0 where
  pub used : new.used ≡ MAX_PARTITIONS
  pub broken : SatisfiesAll (G new.traces) invs → ⊥
  pub next : Split
  pub is_next : IsNextSplit invs new.traces next

-- each complete run of refinement needs more ids than the limit
abbrev pub WantsMoreIds : List Invariant → Parts → Type 0
WantsMoreIds invs old =
    (splits : List Split) (end : Assignment) → Refines invs old.traces old.used splits end
    → MAX_PARTITIONS < old.used + length splits

-- there are fewer splits than events, and none if there is no event
pub record AreFewer (splits : List Split) (count : ℕ) : Type 0 where
  pub some : 0 < count → length splits < count
  pub none : count ≡ 0 → splits ≡ []

-- the traces have few enough distinct suffixes that each can have its own id beside the two ends
pub record HaveFewRests (parts : Parts) : Type 0 where
  pub names : List (List ℕ)
  pub rests : NamesRests names parts.traces
  pub few : length names + FIRST_TYPE ≤ MAX_PARTITIONS

-- the invariants mined from a log hold of each word of its first graph
abbrev pub MinedHold : Type 0
MinedHold =
    (log : Log) (kinds : Kinds) (types : ℕ) → HoldAll (inner_words (start_of log).traces) (mined_for kinds types (words_of log))
