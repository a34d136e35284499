-- The log of a run as three lists.
use Rattle.std.specs.Prelude.{ℕ, List}
use Rattle.cell_pool.specs.declared.run_log.SplitEntry.{SplitEntry}
use Rattle.cell_pool.specs.declared.run_log.MergeEntry.{MergeEntry}
use Rattle.cell_pool.specs.declared.run_log.BlockEntry.{BlockEntry}

-- the splits, merges and blocks that were added, and how many of each there may be
pub record RunLists : Type 0 where
  pub splits : List SplitEntry
  pub merges : List MergeEntry
  pub blocks : List BlockEntry
  pub split_room : ℕ
  pub merge_room : ℕ
  pub block_room : ℕ
