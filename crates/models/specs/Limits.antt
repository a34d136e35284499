-- The limits of a log and of a run.
use Rattle.std.specs.Prelude.{◌+◌, ◌≤◌, length, sum_by}
use Rattle.limits.specs.declared.TheConstants.{FIRST_TYPE, MAX_EVENTS, MAX_PARTITIONS, MAX_PATH_NUMBERS}
use Rattle.invariants.specs.declared.records.Model.{Model}
use Rattle.model_shape.specs.Numbers.{split_numbers, block_numbers}
use Rattle.model_shape.specs.Shapes.{AreTypes}
use Rattle.models.specs.Models.{TypedWords}

-- a log within the limits: its types, its traces, and its events
pub record IsWithinLimits (log : TypedWords) : Type 0 where
  pub types : AreTypes log.types
  pub few_traces : length log.words ≤ MAX_EVENTS
  pub few_events : sum_by (λ w. length w) log.words ≤ MAX_EVENTS

-- a run within the limits: the ids that are used, and the numbers in paths
pub record KeepsLimits (m : Model) : Type 0 where
  pub ids : length m.types + FIRST_TYPE + length m.splits ≤ MAX_PARTITIONS
  pub numbers : split_numbers m.splits + block_numbers m.blocks ≤ MAX_PATH_NUMBERS
