-- The contents of a run's log, as the records of a model.
use Rattle.std.specs.Prelude.{ℕ, ◌≤◌, ◌+◌, List, length, map, All}
use Rattle.invariants.specs.declared.records.Split.{Split}
use Rattle.invariants.specs.declared.records.Merge.{Merge}
use Rattle.invariants.specs.declared.records.Block.{Block}
use Rattle.cell_pool.specs.declared.spans.Span.{Span}
use Rattle.cell_pool.specs.declared.run_log.SplitEntry.{SplitEntry}
use Rattle.cell_pool.specs.declared.run_log.MergeEntry.{MergeEntry}
use Rattle.cell_pool.specs.declared.run_log.BlockEntry.{BlockEntry}
use Rattle.cell_pool.specs.Numbers.{Numbers, list_at}
use Rattle.cell_pool.specs.RunLists.{RunLists}

-- the numbers of the span
abbrev pub path_of : List ℕ → Span → List ℕ
path_of numbers span = list_at numbers span.from span.len

-- the record of a split's entry, with its path
abbrev pub split_of : List ℕ → SplitEntry → Split
split_of numbers e = record { inv = e.inv; place = e.place; path = path_of numbers e.path }

-- the record of a merge's entry
abbrev pub merge_of : MergeEntry → Merge
merge_of e = record { p = e.p; q = e.q }

-- the record of a block's entry, with its path
abbrev pub block_of : List ℕ → BlockEntry → Block
block_of numbers e = record { p = e.p; q = e.q; inv = e.inv; path = path_of numbers e.path }

-- the splits of the run's log, in order
abbrev pub splits_of : RunLists → Numbers → List Split
splits_of run_log spans = map (split_of spans.numbers) run_log.splits

-- the merges of the run's log, in order
abbrev pub merges_of : RunLists → List Merge
merges_of run_log = map merge_of run_log.merges

-- the blocks of the run's log, in order
abbrev pub blocks_of : RunLists → Numbers → List Block
blocks_of run_log spans = map (block_of spans.numbers) run_log.blocks

-- the span lies within the numbers
abbrev pub IsWithin : List ℕ → Span → Type 0
IsWithin numbers span = span.from + span.len ≤ length numbers

-- the numbers hold the path of each split and of each block
pub record HoldsPaths (run_log : RunLists) (spans : Numbers) : Type 0 where
  pub splits : All (λ e. IsWithin spans.numbers e.path) run_log.splits
  pub blocks : All (λ e. IsWithin spans.numbers e.path) run_log.blocks
