-- What logs with the same words have in common.
use Rattle.std.specs.Prelude.{ℕ, ◌≡◌, ◌↔◌, ◌*◌, List, sum_by, Contains}
use Rattle.std.specs.List.{AllByRecursion, flat_map}
use Rattle.std.specs.Str.{bytes_eq}
use Rattle.invariants.specs.declared.records.Partition.{Partition}
use Rattle.invariants.specs.declared.records.Edge.{Edge}
use Rattle.invariants.specs.declared.records.Model.{Model}
use Rattle.traces.specs.Words.{AreApart}
use Rattle.partition_model.specs.Graphs.{IsPath, word}
use Rattle.partition_model.specs.Assignments.{pairs, with_ends}
use Rattle.models.specs.Models.{TypedWords, mined_of, graph_of, IsModelOf}
use Rattle.models.specs.Checks.{IsValid}
use Rattle.models.specs.Limits.{KeepsLimits}
use Rattle.models.specs.Laws.{IsTypedLog}
use Rattle.infer_core.specs.Runs.{AreFinal, PassesNumbers, PassesPartitions}
use Rattle.distinct_law.specs.Words.{HaveSameWords, times, ids_by, path_by, visits, counted_over, without_counts}

-- the same invariants are mined of both
abbrev pub SameMined : Type 0
SameMined = (few whole : TypedWords) → HaveSameWords few whole → mined_of few ≡ mined_of whole

-- the words of the one use exactly its types exactly if those of the other do
abbrev pub SameTyped : Type 0
SameTyped = (few whole : TypedWords) → HaveSameWords few whole → IsTypedLog few ↔ IsTypedLog whole

-- a model is valid for the one exactly if it is for the other
abbrev pub SameValid : Type 0
SameValid = (few whole : TypedWords) (m : Model) → HaveSameWords few whole → IsValid m few ↔ IsValid m whole

-- the path that the word takes is one of the model, with this word
pub record TakesPath (m : Model) (w : List ℕ) : Type 0 where
  pub path : IsPath (graph_of m) (path_by m w)
  pub same : word (graph_of m) (path_by m w) ≡ with_ends w

-- each word of the log takes a path of the model, through the ids that its events have at the end of coarsening,
-- and the counts of the model are those of these paths
pub record PathsCount (m : Model) (log : TypedWords) : Type 0 where
  pub each : AllByRecursion (TakesPath m) log.words
  pub final : AreFinal log (flat_map (λ w. ids_by m w) log.words)
  pub counts : m ≡ counted_over log.words m

-- so it is with the model of a log
abbrev pub WordsTakePaths : Type 0
WordsTakePaths = (m : Model) (log : TypedWords) → IsTypedLog log → IsModelOf m log → PathsCount m log

-- the model of the few words, counted over the words of the whole log, is the model of the whole log
abbrev pub ModelIsCounted : Type 0
ModelIsCounted =
    (few whole : TypedWords) (m : Model) → HaveSameWords few whole → IsTypedLog few → IsModelOf m few
    → IsModelOf (counted_over whole.words m) whole

-- the models are the same except for their counts, each word takes the same path in both, and the counts of the second
-- are those that the paths of all words give
pub record DifferInCounts (m : Model) (words : List (List ℕ)) (other : Model) : Type 0 where
  pub same : without_counts other ≡ without_counts m
  pub paths : (w : List ℕ) → path_by other w ≡ path_by m w
  pub counts : other ≡ counted_over words m

-- so do the models of the two logs
abbrev pub ModelsDifferInCounts : Type 0
ModelsDifferInCounts =
    (few whole : TypedWords) (m other : Model) → HaveSameWords few whole → IsTypedLog few
    → IsModelOf m few → IsModelOf other whole → DifferInCounts m whole.words other

-- the counts of the second model are sums over the few words: what the path of the word gives, times how often the
-- word occurs in the whole log
pub record AreWeighted (few whole : TypedWords) (m other : Model) : Type 0 where
  pub sizes : (x : Partition) → Contains other.partitions x
      → x.count ≡ sum_by (λ w. times whole.words w * visits x.id (path_by m w)) few.words
  pub edges : (x : Edge) → Contains other.edges x
      → x.count ≡ sum_by (λ w. times whole.words w * pairs x.from x.to (path_by m w)) few.words

-- so they are, if no word occurs twice among the few
abbrev pub CountsAreWeighted : Type 0
CountsAreWeighted =
    (few whole : TypedWords) (m other : Model) → HaveSameWords few whole → AreApart bytes_eq few.words
    → IsTypedLog few → IsModelOf m few → IsModelOf other whole → AreWeighted few whole m other

-- inference of the one exceeds a limit exactly if that of the other does, and their models both keep the limits or both do not
pub record EndAlike (few whole : TypedWords) : Type 0 where
  pub partitions : PassesPartitions few ↔ PassesPartitions whole
  pub numbers : PassesNumbers few ↔ PassesNumbers whole
  pub models : (m other : Model) → IsModelOf m few → IsModelOf other whole → KeepsLimits m ↔ KeepsLimits other

-- so do the two logs
abbrev pub LogsEndAlike : Type 0
LogsEndAlike = (few whole : TypedWords) → HaveSameWords few whole → IsTypedLog few → EndAlike few whole
