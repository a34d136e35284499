-- What contracts see of a workbench, and its contents at each stage.
use Rattle.std.specs.Prelude.{◌≡◌, ◌≤◌, ◌<◌, ℕ, Bool, List, Some, length, slice_get}
use Rattle.std.specs.List.{AllByRecursion}
use Rattle.limits.specs.declared.TheConstants.{MAX_EVENTS, MAX_PARTITIONS}
use Rattle.invariants.specs.declared.Invariant.{Invariant}
use Rattle.invariants.specs.declared.Kinds.{Kinds}
use Rattle.invariants.specs.declared.records.Edge.{Edge}
use Rattle.invariants.specs.declared.records.Model.{Model}
use Rattle.invariants.specs.declared.records.Partition.{Partition}
use Rattle.traces.specs.Words.{Log}
use Rattle.cell_pool.specs.Numbers.{Numbers}
use Rattle.cell_pool.specs.RunLists.{RunLists}
use Rattle.run_history.specs.Records.{splits_of, merges_of, blocks_of}
use Rattle.partition_model.specs.Assignments.{G, events}
use Rattle.partition_model.specs.Listings.{ArePartitions, AreEdges}
use Rattle.model_shape.specs.Shapes.{listing_of}
use Rattle.models.specs.Limits.{IsWithinLimits}
use Rattle.models.specs.Models.{mined_of, typed_words, AreReached}
use Rattle.partition_graph.specs.Parts.{Parts}
use Rattle.partition_graph.specs.Spread.{spread, AreAllOf, SharesWords}
use Rattle.labelling.specs.Labelled.{Labelling, SaysSatisfied}
use Rattle.infer_core.specs.declared.workbench.Stage.{Stage}
use Rattle.infer_core.specs.declared.workbench.Stage.TheVariants.{Opened, Inferred, Placed, Refused}
use Rattle.infer_core.specs.Ends.{IsReady, IsPlaced, HasEnded}

-- the kinds of invariants asked for, the log, and the stage of its inference
pub record WorkbenchView : Type 0 where
  pub kinds : Kinds
  pub log : Log
  pub stage : Stage

-- the graph of all traces of a log; each trace is given by a number
abbrev pub whole_of : List ℕ → Parts → Parts
whole_of numbers graph = record { traces = spread numbers graph.traces; used = graph.used }

-- the lists have the partitions and the edges of the graph, whose ids are below the limit
pub record AreListsOf (graph : Parts) (partitions : List Partition) (edges : List Edge) : Type 0 where
  pub partitions_are : ArePartitions partitions graph.traces
  pub edges_are : AreEdges edges graph.traces
  pub ids : (k : ℕ) (x : Partition) → slice_get partitions k ≡ Some x → x.id < MAX_PARTITIONS

-- the invariants mined from the log and the first graph of its distinct words are ready for a run
pub record IsAtStart (kinds : Kinds) (log : Log) (invs : List Invariant) (graph : Parts) (numbers : List ℕ) (stitcher : ℕ)
    (planes : Labelling) (spans : Numbers) (run : RunLists) : Type 0 where
  pub mined : invs ≡ mined_of (typed_words kinds log)
  pub within : IsWithinLimits (typed_words kinds log)
  pub shares : SharesWords log graph numbers
  pub ready : IsReady invs graph stitcher planes spans run

-- the invariants mined from the log and its ended run; spread over all traces, the graph is that of the log
pub record IsAtEnd (kinds : Kinds) (log : Log) (invs : List Invariant) (graph : Parts) (numbers : List ℕ)
    (spans : Numbers) (run : RunLists) : Type 0 where
  pub mined : invs ≡ mined_of (typed_words kinds log)
  pub within : IsWithinLimits (typed_words kinds log)
  pub same : G (spread numbers graph.traces) ≡ G graph.traces
  pub all : AreAllOf numbers graph.traces
  pub few : length (events (spread numbers graph.traces)) ≤ MAX_EVENTS
  pub ended : HasEnded (typed_words kinds log) (whole_of numbers graph) spans run

-- the ended run of the log; spread over all traces, the graph has the final ids of the events
pub record IsAtPlaces (kinds : Kinds) (log : Log) (graph : Parts) (numbers : List ℕ) : Type 0 where
  pub all : AreAllOf numbers graph.traces
  pub few : length (events (spread numbers graph.traces)) ≤ MAX_EVENTS
  pub placed : IsPlaced (typed_words kinds log) (whole_of numbers graph)

-- the contents at each stage; nothing is known after a refusal
abbrev pub Stands : Stage → Kinds → Log → List Invariant → Parts → List ℕ → ℕ
    → Labelling → Numbers → RunLists → Type 0
Stands Opened kinds log invs graph numbers stitcher planes spans run =
    IsAtStart kinds log invs graph numbers stitcher planes spans run
Stands Inferred kinds log invs graph numbers stitcher planes spans run =
    IsAtEnd kinds log invs graph numbers spans run
Stands Placed kinds log invs graph numbers stitcher planes spans run =
    IsAtPlaces kinds log graph numbers
Stands Refused kinds log invs graph numbers stitcher planes spans run = Unit {0}

-- at the start, each flag says whether the graph satisfies the invariant of its number
abbrev pub Knows : Stage → Parts → List Invariant → List Bool → Type 0
Knows Opened graph invs flags = (length flags ≡ length invs) × SaysSatisfied (G graph.traces) invs flags
Knows stage graph invs flags = Unit {0}

-- the stages at which the final ids of the events are known
abbrev pub HasParts : Stage → Type 0
HasParts Inferred = Unit {0}
HasParts Placed = Unit {0}
HasParts stage = ⊥

-- the model has the types of the log, the kinds asked for, the graph, the states reached in it, and the run's records
pub record Tells (m : Model) (asked : Kinds) (log : Log) (invs : List Invariant) (graph : Parts)
    (spans : Numbers) (run : RunLists) : Type 0 where
  pub types : m.types ≡ log.types
  pub kinds : m.kinds ≡ asked
  pub partitions : ArePartitions m.partitions graph.traces
  pub edges : AreEdges m.edges graph.traces
  pub listing : listing_of m ≡ invs
  pub labels : AllByRecursion (λ l. AreReached l.inv graph.traces m.partitions l.labels) m.invariants
  pub splits : m.splits ≡ splits_of run spans
  pub merges : m.merges ≡ merges_of run
  pub blocks : m.blocks ≡ blocks_of run spans
