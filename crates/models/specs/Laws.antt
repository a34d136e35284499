-- Laws of models, of their checks and of their histories.
use Rattle.std.specs.Prelude.{◌≡◌, ◌↔◌, ◌⊎◌, ℕ, ◌+◌, ◌<◌, ◌≤◌, true, List, length, slice_get, Some}
use Rattle.std.specs.List.{AllByRecursion}
use Rattle.limits.specs.declared.TheConstants.{FIRST_TYPE, MAX_PARTITIONS}
use Rattle.invariants.specs.declared.Invariant.{Invariant}
use Rattle.invariants.specs.declared.records.Partition.{Partition}
use Rattle.invariants.specs.declared.records.Model.{Model}
use Rattle.invariants.specs.Labels.{IsLabel}
use Rattle.partition_model.specs.Graphs.{IsFormed}
use Rattle.partition_model.specs.Assignments.{Assignment, G}
use Rattle.partition_model.specs.Labels.{Reached}
use Rattle.partition_model.specs.Listings.{AreBelow, ArePartitions, partitions_below, edges_below}
use Rattle.partition_model.specs.Refinement.{SatisfiesAll}
use Rattle.partition_model.specs.Laws.{AreTyped}
use Rattle.partition_bounds.specs.Laws.{IsBelow}
use Rattle.models.specs.declared.parts.Part.{Part}
use Rattle.models.specs.declared.parts.ReplayPart.{ReplayPart}
use Rattle.models.specs.Models.{TypedWords, graph_of, has_state, AreReached, IsModelOf}
use Rattle.models.specs.Checks.{IsValid, IsFirstPart, Promises}
use Rattle.models.specs.Histories.{IsGraphOf, IsJustified, IsFirstStep}
use Rattle.model_shape.specs.Shapes.{listing_of, IsWellShaped}
use Rattle.models.specs.Limits.{IsWithinLimits, KeepsLimits}

-- a log has at most one model
abbrev pub OneModel : Type 0
OneModel = (a b : Model) (log : TypedWords) → IsModelOf a log → IsModelOf b log → a ≡ b

-- the words use exactly the types of the log
abbrev pub IsTypedLog : TypedWords → Type 0
IsTypedLog log = AreTyped log.words (length log.types + FIRST_TYPE)

-- the model of a log passes both checks, if its ids keep the limit
abbrev pub ModelsPass : Type 0
ModelsPass =
    (m : Model) (log : TypedWords) → IsTypedLog log → IsModelOf m log
    → length log.types + FIRST_TYPE + length m.splits ≤ MAX_PARTITIONS
    → IsValid m log × IsJustified m log

-- the model of a log promises all that a valid model does, however many ids there are
abbrev pub ModelsTell : Type 0
ModelsTell = (m : Model) (log : TypedWords) → IsTypedLog log → IsModelOf m log → Promises m log

-- if ids are below n, a model has the graph of an assignment exactly if its lists are those of the assignment
abbrev pub GraphIsListed : Type 0
GraphIsListed =
    (m : Model) (h : Assignment) (n : ℕ) → FIRST_TYPE ≤ n → AreBelow n h
    → IsGraphOf m h ↔ ((m.partitions ≡ partitions_below n h) × (m.edges ≡ edges_below n h))

-- a number for each partition, in their order: the set of the states that are reached there
pub record AreReachedNumbers (inv : Invariant) (h : Assignment) (partitions : List Partition)
    (numbers : List ℕ) : Type 0 where
  pub count : length numbers ≡ length partitions
  pub each : AllByRecursion IsLabel numbers
  pub states : (k : ℕ) (x : Partition) (number s : ℕ) → slice_get partitions k ≡ Some x
      → slice_get numbers k ≡ Some number → s < 3
      → (has_state number s ≡ true) ↔ Reached inv (G h) x.id s

-- such numbers are the labels of the reached states
abbrev pub NumbersGiveLabels : Type 0
NumbersGiveLabels =
    (inv : Invariant) (h : Assignment) (partitions : List Partition) (numbers : List ℕ)
    → ArePartitions partitions h
    → AreReachedNumbers inv h partitions numbers → AreReached inv h partitions numbers

-- a valid model satisfies each invariant that it lists
abbrev pub ValidSatisfies : Type 0
ValidSatisfies =
    (m : Model) (log : TypedWords) → IsValid m log → SatisfiesAll (graph_of m) (listing_of m)

-- and it keeps its promises about the log
abbrev pub ValidTells : Type 0
ValidTells = (m : Model) (log : TypedWords) → IsValid m log → Promises m log

-- a model is valid, or some part of it fails first
abbrev pub FirstPartExists : Type 0
FirstPartExists =
    (m : Model) (log : TypedWords) → IsValid m log ⊎ ((part : Part) × IsFirstPart m log part)

-- if some part fails first, the model is not valid
abbrev pub FirstPartFails : Type 0
FirstPartFails =
    (m : Model) (log : TypedWords) (part : Part) → IsFirstPart m log part → IsValid m log → ⊥

-- and at most one part fails first
abbrev pub OneFirstPart : Type 0
OneFirstPart =
    (m : Model) (log : TypedWords) (a b : Part) → IsFirstPart m log a → IsFirstPart m log b → a ≡ b

-- a history is justified, or some step of it fails first
abbrev pub FirstStepExists : Type 0
FirstStepExists =
    (m : Model) (log : TypedWords)
    → IsJustified m log ⊎ ((step : ReplayPart) × IsFirstStep m log step)

-- if some step fails first, the history is not justified
abbrev pub FirstStepFails : Type 0
FirstStepFails =
    (m : Model) (log : TypedWords) (step : ReplayPart)
    → IsFirstStep m log step → IsJustified m log → ⊥

-- and at most one step fails first
abbrev pub OneFirstStep : Type 0
OneFirstStep =
    (m : Model) (log : TypedWords) (a b : ReplayPart)
    → IsFirstStep m log a → IsFirstStep m log b → a ≡ b

-- the graph of a well-shaped model is formed, and its ids keep the limit
abbrev pub ShapedAreFormed : Type 0
ShapedAreFormed =
    (m : Model) → IsWellShaped m → IsFormed (graph_of m) × IsBelow MAX_PARTITIONS (graph_of m)

-- the model of a log is well shaped, if the log and the run keep the limits
abbrev pub ModelsAreShaped : Type 0
ModelsAreShaped =
    (m : Model) (log : TypedWords) → IsTypedLog log → IsWithinLimits log → KeepsLimits m
    → IsModelOf m log → IsWellShaped m
