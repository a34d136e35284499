-- What a model must satisfy to be written to a file and read from one: seven rules, one for each of its lists.
-- A file of version 1 requires two things more.
use Rattle.std.specs.Prelude.{◌≡◌, ◌≢◌, ℕ, ◌+◌, ◌<◌, ◌≤◌, ◌==◌, ◌||◌, Bool, true, false, if◌then◌else◌, List, [], ◌∷◌, length, map, slice_get, Some, Contains}
use Rattle.std.specs.List.{AllByRecursion}
use Rattle.limits.specs.declared.TheConstants.{INITIAL, TERMINAL, FIRST_TYPE, MAX_TYPES, MAX_EVENTS, MAX_EDGE_COUNT, MAX_TYPE_BYTES, MAX_PARTITIONS, MAX_PATH_NUMBERS, VERSION_1_TYPES}
use Rattle.invariants.specs.declared.Invariant.{Invariant}
use Rattle.invariants.specs.declared.Kinds.{Kinds}
use Rattle.invariants.specs.declared.Kinds.TheVariants.{Three}
use Rattle.invariants.specs.declared.records.Partition.{Partition}
use Rattle.invariants.specs.declared.records.Edge.{Edge}
use Rattle.invariants.specs.declared.records.Listed.{Listed}
use Rattle.invariants.specs.declared.records.Split.{Split}
use Rattle.invariants.specs.declared.records.Merge.{Merge}
use Rattle.invariants.specs.declared.records.Block.{Block}
use Rattle.invariants.specs.declared.records.Model.{Model}
use Rattle.invariants.specs.Labels.{IsLabel}
use Rattle.invariants.specs.Candidates.{candidates_for}
use Rattle.model_shape.specs.Numbers.{split_numbers, block_numbers}
use Rattle.model_shape.specs.Ascending.{Ascends, PartitionBefore, EdgeBefore, BlockBefore, CandidateBefore}

-- ---- what the lists of a model say

-- whether the id is that of a partition of the list
abbrev pub is_listed : ℕ → List Partition → Bool
is_listed p [] = false
is_listed p (x ∷ xs) = (x.id == p) || is_listed p xs

-- the type that the list gives an id, or 0 if it has no such partition
abbrev pub listed_type : ℕ → List Partition → ℕ
listed_type p [] = 0
listed_type p (x ∷ xs) = if x.id == p then x.typ else listed_type p xs

-- the invariants that the model lists
abbrev pub listing_of : Model → List Invariant
listing_of m = map (λ l. l.inv) m.invariants

-- ---- types

-- a text of 1 to MAX_TYPE_BYTES bytes
pub record IsTypeText (text : List ℕ) : Type 0 where
  pub some : 0 < length text
  pub short : length text ≤ MAX_TYPE_BYTES

-- at most MAX_TYPES types, each a valid text, no two of them equal
pub record AreTypes (types : List (List ℕ)) : Type 0 where
  pub few : length types ≤ MAX_TYPES
  pub each : AllByRecursion IsTypeText types
  pub apart : (j k : ℕ) (text : List ℕ) → slice_get types j ≡ Some text
      → slice_get types k ≡ Some text → j ≡ k

-- ---- partitions

-- the partition of INITIAL or TERMINAL, with this many traces
abbrev pub end_of : ℕ → ℕ → Partition
end_of id traces = record { id = id; typ = id; count = traces }

-- a partition of events, with one of this many types
pub record IsEventPartition (types : ℕ) (x : Partition) : Type 0 where
  pub id : x.id < MAX_PARTITIONS
  pub type_low : FIRST_TYPE ≤ x.typ
  pub type_high : x.typ < types + FIRST_TYPE
  pub some : 0 < x.count
  pub few : x.count ≤ MAX_EVENTS

-- the two ends with the same count, and then partitions of events; all ascend by their ids
pub record AreShapedPartitions (types : ℕ) (xs : List Partition) : Type 0 where
  pub traces : ℕ
  pub inner : List Partition
  pub ends : xs ≡ end_of INITIAL traces ∷ end_of TERMINAL traces ∷ inner
  pub few : length xs ≤ MAX_PARTITIONS
  pub few_traces : traces ≤ MAX_EVENTS
  pub order : Ascends PartitionBefore xs
  pub each : AllByRecursion (IsEventPartition types) inner

-- ---- edges

-- an edge between partitions, not out of TERMINAL and not into INITIAL, with a count of 1 to MAX_EDGE_COUNT
pub record IsShapedEdge (partitions : List Partition) (x : Edge) : Type 0 where
  pub has_from : is_listed x.from partitions ≡ true
  pub has_to : is_listed x.to partitions ≡ true
  pub not_from_end : x.from ≢ TERMINAL
  pub not_to_start : x.to ≢ INITIAL
  pub some : 0 < x.count
  pub few : x.count ≤ MAX_EDGE_COUNT

-- such edges, ascending by the ids that they leave and then by those that they enter
pub record AreShapedEdges (partitions : List Partition) (xs : List Edge) : Type 0 where
  pub order : Ascends EdgeBefore xs
  pub each : AllByRecursion (IsShapedEdge partitions) xs

-- ---- invariants

-- a candidate of these kinds for this many types, with a label for each of this many partitions
pub record IsShapedListed (kinds : Kinds) (types partitions : ℕ) (x : Listed) : Type 0 where
  pub candidate : Contains (candidates_for kinds types) x.inv
  pub count : length x.labels ≡ partitions
  pub labels : AllByRecursion IsLabel x.labels

-- such invariants, in the order of the candidates
pub record AreShapedInvariants (kinds : Kinds) (types partitions : ℕ) (xs : List Listed) : Type 0 where
  pub order : Ascends (CandidateBefore kinds types) (map (λ l. l.inv) xs)
  pub each : AllByRecursion (IsShapedListed kinds types partitions) xs

-- ---- merges

-- a lower and a higher id
pub record IsShapedMerge (x : Merge) : Type 0 where
  pub order : x.p < x.q
  pub high : x.q < MAX_PARTITIONS

-- such merges, at most as many as there may be ids besides the two ends
pub record AreShapedMerges (xs : List Merge) : Type 0 where
  pub few : length xs + FIRST_TYPE ≤ MAX_PARTITIONS
  pub each : AllByRecursion IsShapedMerge xs

-- ---- splits

-- ids that a partition may have
abbrev pub AreIds : List ℕ → Type 0
AreIds path = AllByRecursion (λ p. p < MAX_PARTITIONS) path

-- a split for one of this many invariants, with its place on its path
pub record IsShapedSplit (invariants : ℕ) (x : Split) : Type 0 where
  pub names : x.inv < invariants
  pub place : x.place < length x.path
  pub path : AreIds x.path

-- such splits, at most as many as there may be ids besides the two ends,
-- with at most MAX_PATH_NUMBERS numbers in their paths
pub record AreShapedSplits (invariants : ℕ) (xs : List Split) : Type 0 where
  pub few : length xs + FIRST_TYPE ≤ MAX_PARTITIONS
  pub each : AllByRecursion (IsShapedSplit invariants) xs
  pub numbers : split_numbers xs ≤ MAX_PATH_NUMBERS

-- ---- blocks

-- a block of two partitions of one type, for one of this many invariants
pub record IsShapedBlock (invariants : ℕ) (partitions : List Partition) (x : Block) : Type 0 where
  pub order : x.p < x.q
  pub has_p : is_listed x.p partitions ≡ true
  pub has_q : is_listed x.q partitions ≡ true
  pub types : listed_type x.p partitions ≡ listed_type x.q partitions
  pub names : x.inv < invariants
  pub path : AreIds x.path

-- such blocks, ascending by their two ids; the paths of splits and blocks have at most MAX_PATH_NUMBERS numbers
pub record AreShapedBlocks (invariants : ℕ) (partitions : List Partition) (splits : List Split)
    (xs : List Block) : Type 0 where
  pub order : Ascends BlockBefore xs
  pub each : AllByRecursion (IsShapedBlock invariants partitions) xs
  pub numbers : split_numbers splits + block_numbers xs ≤ MAX_PATH_NUMBERS

-- ---- models

-- the seven rules
pub record IsWellShaped (m : Model) : Type 0 where
  pub types : AreTypes m.types
  pub partitions : AreShapedPartitions (length m.types) m.partitions
  pub edges : AreShapedEdges m.partitions m.edges
  pub invariants : AreShapedInvariants m.kinds (length m.types) (length m.partitions) m.invariants
  pub merges : AreShapedMerges m.merges
  pub splits : AreShapedSplits (length m.invariants) m.splits
  pub blocks : AreShapedBlocks (length m.invariants) m.partitions m.splits m.blocks

-- what a file of version 1 can contain: the three kinds of invariants, and at most VERSION_1_TYPES types
pub record IsOfVersion1 (m : Model) : Type 0 where
  pub kinds : m.kinds ≡ Three
  pub types : length m.types ≤ VERSION_1_TYPES
