-- How the inference of a log ends.
use Rattle.std.specs.Prelude.{◌≡◌, ℕ, ◌+◌, ◌*◌, ◌≤◌, List, length}
use Rattle.limits.specs.declared.TheConstants.{MAX_PARTITIONS}
use Rattle.invariants.specs.declared.records.Block.{Block}
use Rattle.invariants.specs.declared.records.Merge.{Merge}
use Rattle.invariants.specs.declared.records.Split.{Split}
use Rattle.model_shape.specs.Numbers.{split_numbers, block_numbers}
use Rattle.partition_model.specs.Assignments.{Assignment, G, by_type}
use Rattle.partition_model.specs.Refinement.{IsNextSplit, IsRefined, Splits}
use Rattle.partition_model.specs.Coarsening.{Coarsens}
use Rattle.partition_model.specs.Listings.{parts_of}
use Rattle.partition_bounds.specs.Pairs.{pairs_below}
use Rattle.models.specs.Models.{TypedWords, mined_of}
use Rattle.models.specs.Histories.{first_new}
use Rattle.partition_graph.specs.Parts.{Parts}
use Rattle.coarsener.specs.Blocking.{EndsWithoutRoom}

-- where the run begins: each event in the partition of its type, and the first unused id
abbrev pub first_parts : TypedWords → Parts
first_parts log = record { traces = by_type log.words; used = first_new log }

-- refinement of the log needs one partition more than the limit
pub record PassesPartitions (log : TypedWords) : Type 0 where
  pub splits : List Split
  pub now : Assignment
  pub run : Splits (mined_of log) (by_type log.words) (first_new log) splits now
  pub full : first_new log + length splits ≡ MAX_PARTITIONS
  pub next : Split
  pub is_next : IsNextSplit (mined_of log) now next

-- refinement and coarsening of the log end, and the paths of all splits and of the first blocks, including the next
-- one, exceed the limit on numbers
pub record PassesNumbers (log : TypedWords) : Type 0 where
  pub splits : List Split
  pub refined : Assignment
  pub refines : IsRefined (mined_of log) (length log.types) log.words splits refined
  pub within : first_new log + length splits ≤ MAX_PARTITIONS
  pub merges : List Merge
  pub end : Assignment
  pub coarsens : Coarsens (mined_of log) refined merges end
  pub blocks : List Block
  pub ends : EndsWithoutRoom (mined_of log)
      (record { traces = end; used = first_new log + length splits }) blocks
      (split_numbers splits + block_numbers blocks)

-- the final ids of the events, trace by trace, after refinement and coarsening of the log
pub record AreFinal (log : TypedWords) (ids : List ℕ) : Type 0 where
  pub splits : List Split
  pub refined : Assignment
  pub refines : IsRefined (mined_of log) (length log.types) log.words splits refined
  pub merges : List Merge
  pub end : Assignment
  pub coarsens : Coarsens (mined_of log) refined merges end
  pub value : ids ≡ parts_of end

-- at most one step per mined invariant and per split, three per pair of one type of the refined graph, and one more
pub record CountsAtMost (log : TypedWords) (before after : ℕ) : Type 0 where
  pub splits : List Split
  pub refined : Assignment
  pub refines : IsRefined (mined_of log) (length log.types) log.words splits refined
  pub more : before ≤ after
  pub steps : after ≤ before + length (mined_of log) + length splits
      + 3 * length (pairs_below (first_new log + length splits) (G refined)) + 1
