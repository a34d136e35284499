-- What exists: whole runs of coarsening, blocks, labels, and the model of a log.
use Rattle.std.specs.Prelude.{◌≡◌, ◌↔◌, ◌⊎◌, ℕ, ◌+◌, ◌-◌, ◌*◌, ◌<◌, ◌≤◌, List, [], ◌∷◌, ◌++◌, length, Contains}
use Rattle.std.specs.List.{AllByRecursion}
use Rattle.limits.specs.declared.TheConstants.{FIRST_TYPE, MAX_PARTITIONS, MAX_PATH_NUMBERS}
use Rattle.invariants.specs.declared.Invariant.{Invariant}
use Rattle.invariants.specs.declared.records.Partition.{Partition}
use Rattle.invariants.specs.declared.records.Split.{Split}
use Rattle.invariants.specs.declared.records.Merge.{Merge}
use Rattle.invariants.specs.declared.records.Block.{Block}
use Rattle.invariants.specs.declared.records.Model.{Model}
use Rattle.partition_model.specs.Graphs.{Graph, IsFormed, Merged}
use Rattle.partition_model.specs.Assignments.{Assignment, G, IsTyped}
use Rattle.partition_model.specs.Labels.{Reached}
use Rattle.partition_model.specs.Listings.{AreBelow, ArePartitions}
use Rattle.partition_model.specs.Refinement.{SatisfiesAll, IsRefined}
use Rattle.partition_model.specs.Coarsening.{IsPair, IsNextMerge, NoMerge, Coarsens, IsBlock, AreBlocks}
use Rattle.partition_model.specs.Laws.{IsOneOf, Keeps}
use Rattle.partition_bounds.specs.Pairs.{pair_of, pairs_of, pairs_below}
use Rattle.partition_bounds.specs.Laws.{IsBelow}
use Rattle.model_shape.specs.Numbers.{split_numbers, block_numbers}
use Rattle.refinement_end.specs.Laws.{StopsFull}
use Rattle.models.specs.Models.{TypedWords, mined_of, AreReached, IsModelOf}
use Rattle.models.specs.Histories.{first_new}
use Rattle.models.specs.Limits.{KeepsLimits}
use Rattle.models.specs.Laws.{IsTypedLog}

-- the pair has a block
abbrev pub HasBlock : List Invariant → Graph → ℕ → ℕ → Type 0
HasBlock invs g p q = (b : Block) × IsBlock invs g b × (b.p ≡ p) × (b.q ≡ q)

-- the merge of a pair keeps each invariant of a list, or the pair has a block
abbrev pub KeptOrBlocked : Type 0
KeptOrBlocked =
    (invs : List Invariant) (g : Graph) (p q n : ℕ) → IsFormed g → IsBelow n g → IsPair g p q
    → SatisfiesAll (Merged g p q) invs ⊎ HasBlock invs g p q

-- there is a next merge
abbrev pub HasNextMerge : List Invariant → Assignment → Type 0
HasNextMerge invs h = (m : Merge) × IsNextMerge invs h m

-- there is a next merge, or no merge keeps every invariant
abbrev pub MergeOrNone : Type 0
MergeOrNone = (invs : List Invariant) (h : Assignment) → IsTyped h → HasNextMerge invs h ⊎ NoMerge invs h

-- there is a list of the blocks of all pairs
abbrev pub HasBlocks : List Invariant → Graph → Type 0
HasBlocks invs g = (blocks : List Block) × AreBlocks invs g blocks

-- there is one exactly if no merge keeps every invariant
abbrev pub BlocksExist : Type 0
BlocksExist = (invs : List Invariant) (h : Assignment) → IsTyped h → NoMerge invs h ↔ HasBlocks invs (G h)

-- the merges are the only whole run of coarsening from h. They are at most as many as the ids besides the two ends;
-- all pairs at the end have blocks, and what refinement and coarsening keep is kept.
pub record IsWholeCoarsening (invs : List Invariant) (h : Assignment) (merges : List Merge)
    (end : Assignment) : Type 0 where
  pub run : Coarsens invs h merges end
  pub alone : (others : List Merge) (other : Assignment) → Coarsens invs h others other
      → (merges ≡ others) × (end ≡ other)
  pub few : (n : ℕ) → FIRST_TYPE ≤ n → AreBelow n h → length merges + FIRST_TYPE ≤ n
  pub typed : IsTyped end
  pub blocks : HasBlocks invs (G end)
  pub keeps : (words : List (List ℕ)) → Keeps invs words h → Keeps invs words end

-- each assignment with one type for each id has one
abbrev pub CoarseningEnds : Type 0
CoarseningEnds =
    (invs : List Invariant) (h : Assignment) → IsTyped h
    → (merges : List Merge) × (end : Assignment) × IsWholeCoarsening invs h merges end

-- a state is reached at an id, or it is not
abbrev pub ReachedOrNot : Type 0
ReachedOrNot =
    (inv : Invariant) (g : Graph) (n p s : ℕ) → IsFormed g → IsBelow n g
    → Reached inv g p s ⊎ (Reached inv g p s → ⊥)

-- so there are labels of the reached states
abbrev pub LabelsExist : Type 0
LabelsExist =
    (inv : Invariant) (h : Assignment) (partitions : List Partition) → IsTyped h → ArePartitions partitions h
    → (labels : List ℕ) × AreReached inv h partitions labels

-- m is the only model of the log
pub record IsTheModel (m : Model) (log : TypedWords) : Type 0 where
  pub model : IsModelOf m log
  pub alone : (other : Model) → IsModelOf other log → other ≡ m

-- a log whose words use exactly its types has one model, whichever kinds are to be mined
abbrev pub ModelExists : Type 0
ModelExists = (log : TypedWords) → IsTypedLog log → (m : Model) × IsTheModel m log

-- the log has a model that keeps the limits of a run
abbrev pub HasModelWithin : TypedWords → Type 0
HasModelWithin log = (m : Model) × IsTheModel m log × KeepsLimits m

-- the first splits of the log use as many ids as the limit, and there is a next split
abbrev pub NeedsMoreIds : TypedWords → Type 0
NeedsMoreIds log = StopsFull MAX_PARTITIONS (mined_of log) log.words (first_new log)

-- refinement of the log keeps the limit on ids, and the paths of its model exceed the limit on numbers
pub record NeedsMoreNumbers (log : TypedWords) : Type 0 where
  pub model : Model
  pub is_model : IsTheModel model log
  pub ids : first_new log + length model.splits ≤ MAX_PARTITIONS
  pub numbers : MAX_PATH_NUMBERS < split_numbers model.splits + block_numbers model.blocks

-- refinement of the log keeps the limit on ids, and coarsening ends; the paths of the splits and of the blocks
-- of the first pairs, including the next one, exceed the limit on numbers
pub record StopsWithoutRoom (log : TypedWords) : Type 0 where
  pub splits : List Split
  pub refined : Assignment
  pub refines : IsRefined (mined_of log) (length log.types) log.words splits refined
  pub within : first_new log + length splits ≤ MAX_PARTITIONS
  pub merges : List Merge
  pub end : Assignment
  pub coarsens : Coarsens (mined_of log) refined merges end
  pub blocks : List Block
  pub next : Block
  pub rest : List Merge
  pub pairs : pairs_of blocks ++ pair_of next.p next.q ∷ rest ≡ pairs_below (first_new log + length splits) (G end)
  pub each : AllByRecursion (IsBlock (mined_of log) (G end)) blocks
  pub is_block : IsBlock (mined_of log) (G end) next
  pub too_long : MAX_PATH_NUMBERS < split_numbers splits + block_numbers blocks + length next.path

-- the model needs more numbers exactly if there is such a stop
abbrev pub RoomTells : Type 0
RoomTells = (log : TypedWords) → IsTypedLog log → NeedsMoreNumbers log ↔ StopsWithoutRoom log

-- exactly one of the three holds
pub record EndsOneWay (log : TypedWords) : Type 0 where
  pub some : HasModelWithin log ⊎ (NeedsMoreIds log ⊎ NeedsMoreNumbers log)
  pub not_ids : HasModelWithin log → NeedsMoreIds log → ⊥
  pub not_numbers : HasModelWithin log → NeedsMoreNumbers log → ⊥
  pub not_both : NeedsMoreIds log → NeedsMoreNumbers log → ⊥

-- so it is for each log whose words use exactly its types and whose first graph keeps the limit on ids
abbrev pub LogsEndOneWay : Type 0
LogsEndOneWay = (log : TypedWords) → IsTypedLog log → first_new log ≤ MAX_PARTITIONS → EndsOneWay log

-- the list contains each non-empty suffix of a word
abbrev pub NamesSuffixes : List (List ℕ) → List (List ℕ) → Type 0
NamesSuffixes names words =
    (front suffix : List ℕ) → Contains words (front ++ suffix) → (suffix ≡ [] → ⊥) → IsOneOf suffix names

-- the model has at most this many ids besides the two ends, at most as many blocks as these ids have pairs,
-- and at most (3 * count + 2) * count * (count + 1) / 2 numbers in its paths
pub record IsSmall (count : ℕ) (m : Model) : Type 0 where
  pub ids : length m.types + length m.splits ≤ count
  pub blocks : 2 * length m.blocks ≤ count * (count - 1)
  pub numbers : 2 * (split_numbers m.splits + block_numbers m.blocks) ≤ (3 * count + 2) * (count * (count + 1))

-- so is the model of a log with this many suffixes
abbrev pub ModelsAreSmall : Type 0
ModelsAreSmall =
    (m : Model) (log : TypedWords) (names : List (List ℕ)) → IsTypedLog log → IsModelOf m log
    → NamesSuffixes names log.words → IsSmall (length names) m

-- this many suffixes are too few to exceed a limit of a run
abbrev pub few_suffixes : ℕ
few_suffixes = 138

-- so a log with at most this many has a model within the limits
abbrev pub SmallLogsFit : Type 0
SmallLogsFit =
    (log : TypedWords) (names : List (List ℕ)) → IsTypedLog log → NamesSuffixes names log.words
    → length names ≤ few_suffixes → HasModelWithin log
