-- When the splits and the merges of a model lead from a log to its graph, and the first step that fails.
use Rattle.std.specs.Prelude.{◌≡◌, ◌≢◌, ℕ, zero, suc, ◌+◌, ◌<◌, List, [], ◌∷◌, length, slice_get, Some}
use Rattle.limits.specs.declared.TheConstants.{FIRST_TYPE, MAX_PARTITIONS}
use Rattle.invariants.specs.declared.records.Listed.{Listed}
use Rattle.invariants.specs.declared.records.Model.{Model}
use Rattle.invariants.specs.declared.records.Split.{Split}
use Rattle.invariants.specs.declared.records.Merge.{Merge}
use Rattle.partition_model.specs.Graphs.{Breaks}
use Rattle.partition_model.specs.Assignments.{Assignment, by_type, G}
use Rattle.partition_model.specs.Listings.{ArePartitions, AreEdges}
use Rattle.partition_model.specs.Refinement.{stitch, after_split}
use Rattle.partition_model.specs.Coarsening.{merge, merged_by, IsPair}
use Rattle.partition_model.specs.Laws.{MergeInTurn}
use Rattle.models.specs.declared.parts.ReplayPart.{ReplayPart}
use Rattle.models.specs.declared.parts.ReplayPart.TheVariants as step
use Rattle.models.specs.Models.{TypedWords}

-- a split is justified at h, with n for the next id, which is within the limit: its path breaks a listed invariant,
-- and its place is the stitch of the path, before the last id
pub record IsJustifiedSplit (m : Model) (h : Assignment) (n : ℕ) (s : Split) : Type 0 where
  pub listed : Listed
  pub names : slice_get m.invariants s.inv ≡ Some listed
  pub breaks : Breaks (G h) listed.inv s.path
  pub place : s.place ≡ stitch h s.path
  pub inside : s.place + 1 < length s.path
  pub room : n < MAX_PARTITIONS

-- each split is justified in its turn
abbrev pub SplitInTurn : Model → Assignment → ℕ → List Split → Type 0
SplitInTurn m h n [] = Unit {0}
SplitInTurn m h n (s ∷ ss) = IsJustifiedSplit m h n s × SplitInTurn m (after_split n s h) (suc n) ss

-- the assignment after these splits, one after another
abbrev pub split_by : ℕ → List Split → Assignment → Assignment
split_by n [] h = h
split_by n (s ∷ ss) h = split_by (suc n) ss (after_split n s h)

-- the first new id
abbrev pub first_new : TypedWords → ℕ
first_new log = length log.types + FIRST_TYPE

-- the assignment of the log after the splits of the model
abbrev pub refined_by : Model → TypedWords → Assignment
refined_by m log = split_by (first_new log) m.splits (by_type log.words)

-- and after its merges too
abbrev pub replayed : Model → TypedWords → Assignment
replayed m log = merged_by m.merges (refined_by m log)

-- the partitions and the edges are those of the assignment, counts included
pub record IsGraphOf (m : Model) (h : Assignment) : Type 0 where
  pub partitions : ArePartitions m.partitions h
  pub edges : AreEdges m.edges h

-- the types are those of the log, each split is justified and each merge is of a pair in its turn,
-- and they lead to the graph of the model
pub record IsJustified (m : Model) (log : TypedWords) : Type 0 where
  pub types : m.types ≡ log.types
  pub splits : SplitInTurn m (by_type log.words) (first_new log) m.splits
  pub merges : MergeInTurn (refined_by m log) m.merges
  pub graph : IsGraphOf m (replayed m log)

-- the split with the number k is the first that is not justified in its turn
abbrev pub IsFirstWrongSplit : Model → Assignment → ℕ → List Split → ℕ → Type 0
IsFirstWrongSplit m h n [] k = ⊥
IsFirstWrongSplit m h n (s ∷ ss) zero = IsJustifiedSplit m h n s → ⊥
IsFirstWrongSplit m h n (s ∷ ss) (suc k) =
    IsJustifiedSplit m h n s × IsFirstWrongSplit m (after_split n s h) (suc n) ss k

-- the merge with the number k is the first that is not of a pair in its turn
abbrev pub IsFirstWrongMerge : Assignment → List Merge → ℕ → Type 0
IsFirstWrongMerge h [] k = ⊥
IsFirstWrongMerge h (x ∷ xs) zero = IsPair (G h) x.p x.q → ⊥
IsFirstWrongMerge h (x ∷ xs) (suc k) =
    IsPair (G h) x.p x.q × IsFirstWrongMerge (merge x.p x.q h) xs k

-- the steps before this one hold, and this one fails
abbrev pub IsFirstStep : Model → TypedWords → ReplayPart → Type 0
IsFirstStep m log step.Types = m.types ≢ log.types
IsFirstStep m log (step.Split k) =
    (m.types ≡ log.types) × IsFirstWrongSplit m (by_type log.words) (first_new log) m.splits k
IsFirstStep m log (step.Merge k) =
    (m.types ≡ log.types) × SplitInTurn m (by_type log.words) (first_new log) m.splits
    × IsFirstWrongMerge (refined_by m log) m.merges k
IsFirstStep m log step.Graph =
    (m.types ≡ log.types) × SplitInTurn m (by_type log.words) (first_new log) m.splits
    × MergeInTurn (refined_by m log) m.merges
    × (IsGraphOf m (replayed m log) → ⊥)
