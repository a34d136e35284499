-- What refinement writes for its splits: an entry of the run's log for each, and its path in the spans.
use Rattle.std.specs.Prelude.{◌≡◌, ℕ, ◌≤◌, List, [], ◌∷◌, ◌++◌}
use Rattle.std.specs.List.{flat_map}
use Rattle.limits.specs.declared.TheConstants.{MAX_STEPS, MAX_PATH_NUMBERS}
use Rattle.invariants.specs.declared.records.Split.{Split}
use Rattle.cell_pool.specs.declared.run_log.SplitEntry.{SplitEntry}
use Rattle.cell_pool.specs.Numbers.{Numbers, Pushes}
use Rattle.cell_pool.specs.RunLists.{RunLists}
use Rattle.run_history.specs.Records.{splits_of, HoldsPaths}

-- nothing is written yet
pub record AreEmpty (run_log : RunLists) (spans : Numbers) : Type 0 where
  pub splits : run_log.splits ≡ []
  pub merges : run_log.merges ≡ []
  pub blocks : run_log.blocks ≡ []
  pub numbers : spans.numbers ≡ []

-- there is room for all possible splits, and for all numbers of their paths
pub record HaveRoom (run_log : RunLists) (spans : Numbers) : Type 0 where
  pub splits : MAX_STEPS ≤ run_log.split_room
  pub numbers : MAX_PATH_NUMBERS ≤ spans.room

-- the paths of splits, one after another
abbrev pub paths_of : List Split → List ℕ
paths_of splits = flat_map (λ s. s.path) splits

-- the paths of the log's splits stand in the spans, in order; nothing else changed
pub record WritesSplits (old_log run_log : RunLists) (old_spans spans : Numbers) : Type 0 where
  pub log_is : run_log ≡ record old_log { splits = run_log.splits }
  pub spans_are : spans ≡ record old_spans { numbers = paths_of (splits_of run_log spans) }
  pub paths : HoldsPaths run_log spans

-- one more split was written: its path was pushed, and its entry added
pub record AddsSplit (old_log run_log : RunLists) (old_spans spans : Numbers) (s : Split) : Type 0 where
  pub entry : SplitEntry
  pub inv : entry.inv ≡ s.inv
  pub place : entry.place ≡ s.place
  pub path : Pushes old_spans spans s.path entry.path
  pub log_is : run_log ≡ record old_log { splits = old_log.splits ++ entry ∷ [] }
