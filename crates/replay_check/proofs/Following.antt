-- What is answered of all steps together.
use Rattle.std.proofs.Common.{◌≡◌, ℕ}
use Rattle.invariants.specs.declared.records.Model.{Model}
use Rattle.partition_model.specs.Assignments.{Assignment, by_type}
use Rattle.models.specs.Models.{TypedWords}
use Rattle.models.specs.Histories.{SplitInTurn, split_by, first_new}
use Rattle.models.specs.declared.parts.ReplayPart.TheVariants.{Types, Split, Merge, Graph}
use Rattle.replay_check.specs.declared.answer.Replay.{Replay}
use Rattle.replay_check.specs.declared.answer.Replay.TheVariants.{Yes, No}
use Rattle.replay_check.specs.Answers.{IsMerged, IsFollowed, IsReplay}

-- from what comes after the splits to all steps
pub followed-from : (m : Model) (h : Assignment) (n : ℕ) (answer : Replay) → SplitInTurn m h n m.splits → IsMerged m (split_by n m.splits h) answer → IsFollowed m h n answer
followed-from m h n Yes s x = (s, x)
followed-from m h n (No Types) s x = x
followed-from m h n (No (Split k)) s x = absurd x
followed-from m h n (No (Merge k)) s x = (s, x)
followed-from m h n (No Graph) s x = (s, x)

-- and to the answer of a replay
pub replay-from : (m : Model) (log : TypedWords) (answer : Replay) → m.types ≡ log.types → IsFollowed m (by_type log.words) (first_new log) answer → IsReplay m log answer
replay-from m log Yes t f = record { types = t; splits = f.0; merges = f.1.0; graph = f.1.1 }
replay-from m log (No Types) t f = absurd f
replay-from m log (No (Split k)) t f = (t, f)
replay-from m log (No (Merge k)) t f = (t, f.0, f.1)
replay-from m log (No Graph) t f = (t, f.0, f.1.0, f.1.1)
