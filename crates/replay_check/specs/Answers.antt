-- What a replay answers for a model and a log.
use Rattle.std.specs.Prelude.{ℕ}
use Rattle.invariants.specs.declared.records.Model.{Model}
use Rattle.partition_model.specs.Assignments.{Assignment}
use Rattle.partition_model.specs.Coarsening.{merged_by}
use Rattle.partition_model.specs.Laws.{MergeInTurn}
use Rattle.models.specs.Models.{TypedWords}
use Rattle.models.specs.Histories.{IsJustified, IsFirstStep, IsGraphOf, IsFirstWrongMerge, IsFirstWrongSplit, SplitInTurn, split_by}
use Rattle.models.specs.declared.parts.ReplayPart.TheVariants.{Types, Split, Merge, Graph}
use Rattle.replay_check.specs.declared.answer.Replay.{Replay}
use Rattle.replay_check.specs.declared.answer.Replay.TheVariants.{Yes, No}

-- yes for a justified history, or no with the first step that is not
abbrev pub IsReplay : Model → TypedWords → Replay → Type 0
IsReplay m log Yes = IsJustified m log
IsReplay m log (No part) = IsFirstStep m log part

-- the same for the steps after the splits, which end in h
abbrev pub IsMerged : Model → Assignment → Replay → Type 0
IsMerged m h Yes = MergeInTurn h m.merges × IsGraphOf m (merged_by m.merges h)
IsMerged m h (No Types) = ⊥
IsMerged m h (No (Split k)) = ⊥
IsMerged m h (No (Merge k)) = IsFirstWrongMerge h m.merges k
IsMerged m h (No Graph) = MergeInTurn h m.merges × (IsGraphOf m (merged_by m.merges h) → ⊥)

-- the same for splits and merges from h; the first new id is n
abbrev pub IsFollowed : Model → Assignment → ℕ → Replay → Type 0
IsFollowed m h n Yes = SplitInTurn m h n m.splits × IsMerged m (split_by n m.splits h) Yes
IsFollowed m h n (No Types) = ⊥
IsFollowed m h n (No (Split k)) = IsFirstWrongSplit m h n m.splits k
IsFollowed m h n (No (Merge k)) = SplitInTurn m h n m.splits × IsMerged m (split_by n m.splits h) (No (Merge k))
IsFollowed m h n (No Graph) = SplitInTurn m h n m.splits × IsMerged m (split_by n m.splits h) (No Graph)
