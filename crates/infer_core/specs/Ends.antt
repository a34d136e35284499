-- What one run needs, and what it leaves.
use Rattle.std.specs.Prelude.{◌≡◌, ℕ, ◌+◌, ◌*◌, ◌<◌, ◌≤◌, ◌^◌, List, [], length, Result, Ok, Err}
use Rattle.limits.specs.declared.TheConstants.{MAX_PAIRS, MAX_PARTITIONS, MAX_PATH_NUMBERS, MAX_STEPS}
use Rattle.invariants.specs.declared.Invariant.{Invariant}
use Rattle.invariants.specs.declared.records.Block.{Block}
use Rattle.invariants.specs.declared.records.Merge.{Merge}
use Rattle.invariants.specs.declared.records.Split.{Split}
use Rattle.cell_pool.specs.Numbers.{Numbers}
use Rattle.cell_pool.specs.RunLists.{RunLists}
use Rattle.run_history.specs.Records.{splits_of, merges_of, blocks_of, HoldsPaths}
use Rattle.model_shape.specs.Numbers.{split_numbers, block_numbers}
use Rattle.partition_model.specs.Assignments.{Assignment, G, events, inner_words}
use Rattle.partition_model.specs.Refinement.{IsRefined, Refines}
use Rattle.partition_model.specs.Coarsening.{Coarsens, AreBlocks}
use Rattle.partition_model.specs.Laws.{HoldAll}
use Rattle.partition_bounds.specs.Pairs.{pairs_below}
use Rattle.models.specs.Models.{TypedWords, mined_of}
use Rattle.models.specs.Histories.{first_new}
use Rattle.partition_graph.specs.Parts.{Parts}
use Rattle.labelling.specs.Labelled.{Labelling}
use Rattle.splitter.specs.Refining.{IsOpened}
use Rattle.splitter.specs.Writing.{AreEmpty, HaveRoom}
use Rattle.coarsener.specs.Blocking.{pair_count, EndsWithoutRoom}
use Rattle.coarsener.specs.Marking.{AreMarksNow}
use Rattle.infer_core.specs.declared.workbench.InferLimit.{InferLimit}
use Rattle.infer_core.specs.declared.workbench.InferLimit.TheVariants.{Partitions, Evidence}
use Rattle.infer_core.specs.Runs.{first_parts, PassesPartitions, PassesNumbers}

-- a first graph, invariants that hold of its words, the memory made for them, and an empty run's log with room for all
-- that a run can write
pub record IsReady (invs : List Invariant) (graph : Parts) (stitcher : ℕ)
    (planes : Labelling) (spans : Numbers) (run : RunLists) : Type 0 where
  pub few : length invs < 2 ^ 32
  pub opened : IsOpened graph
  pub hold : HoldAll (inner_words graph.traces) invs
  pub made : stitcher ≡ length (events graph.traces)
  pub listed : planes.invs ≡ invs
  pub empty : AreEmpty run spans
  pub room : HaveRoom run spans
  pub numbers : spans.room ≡ MAX_PATH_NUMBERS
  pub merges : MAX_STEPS ≤ run.merge_room
  pub blocks : MAX_PAIRS ≤ run.block_room

-- the invariants are those mined from these words, and the graph is the first one
pub record BeginsWith (words : TypedWords) (invs : List Invariant) (graph : Parts) : Type 0 where
  pub mined : invs ≡ mined_of words
  pub first : graph ≡ first_parts words

-- refinement and coarsening have ended; the splits and the merges are recorded, and no block is. All is ready for the
-- blocks. At most one step was counted per invariant and per split, and two per pair of one type of the refined graph
pub record IsCoarsened (invs : List Invariant) (old new : Parts)
    (planes : Labelling) (spans : Numbers) (run : RunLists) (before after : ℕ) : Type 0 where
  pub refined : Assignment
  pub refines : Refines invs old.traces old.used (splits_of run spans) refined
  pub used : new.used ≡ old.used + length (splits_of run spans)
  pub within : new.used ≤ MAX_PARTITIONS
  pub coarsens : Coarsens invs refined (merges_of run) new.traces
  pub fewer : pair_count new ≤ length (pairs_below new.used (G refined))
  pub listed : planes.invs ≡ invs
  pub marks : 0 < pair_count new → AreMarksNow planes new
  pub none : run.blocks ≡ []
  pub room : pair_count new ≤ run.block_room
  pub numbers : spans.room ≡ MAX_PATH_NUMBERS
  pub long : length spans.numbers ≡ split_numbers (splits_of run spans)
  pub paths : HoldsPaths run spans
  pub more : before ≤ after
  pub few : after ≤ before + length invs + length (splits_of run spans)
      + 2 * length (pairs_below new.used (G refined))

-- the paths of these splits and of the blocks of this graph fit: no list of its first blocks runs out of room
abbrev pub PathsFit : List Invariant → Parts → List Split → Type 0
PathsFit invs graph splits =
    (blocks : List Block) → EndsWithoutRoom invs graph blocks (split_numbers splits + block_numbers blocks) → ⊥

-- the graph is that where refinement and coarsening of these words end, within the limits
pub record IsPlaced (words : TypedWords) (graph : Parts) : Type 0 where
  pub splits : List Split
  pub refined : Assignment
  pub refines : IsRefined (mined_of words) (length words.types) words.words splits refined
  pub ids : first_new words + length splits ≤ MAX_PARTITIONS
  pub merges : List Merge
  pub coarsens : Coarsens (mined_of words) refined merges graph.traces
  pub fits : PathsFit (mined_of words) (record { traces = graph.traces; used = first_new words + length splits }) splits

-- the run of these words is recorded: refinement and coarsening have ended, and each pair of the graph has its block,
-- within the limits
pub record HasEnded (words : TypedWords) (graph : Parts) (spans : Numbers) (run : RunLists) : Type 0 where
  pub refined : Assignment
  pub refines : IsRefined (mined_of words) (length words.types) words.words (splits_of run spans) refined
  pub ids : first_new words + length (splits_of run spans) ≤ MAX_PARTITIONS
  pub coarsens : Coarsens (mined_of words) refined (merges_of run) graph.traces
  pub blocks : AreBlocks (mined_of words) (G graph.traces) (blocks_of run spans)
  pub numbers : split_numbers (splits_of run spans) + block_numbers (blocks_of run spans) ≤ MAX_PATH_NUMBERS
  pub paths : HoldsPaths run spans

-- what the run of these words leaves for each answer
abbrev pub RunGives : Result (Unit {0}) InferLimit → TypedWords → Parts → Numbers → RunLists → Type 0
RunGives (Ok done) words graph spans run = HasEnded words graph spans run
RunGives (Err Partitions) words graph spans run = PassesPartitions words
RunGives (Err Evidence) words graph spans run = PassesNumbers words

-- what a run of these words that only places the events leaves for each answer
abbrev pub PlaceGives : Result (Unit {0}) InferLimit → TypedWords → Parts → Type 0
PlaceGives (Ok done) words graph = IsPlaced words graph
PlaceGives (Err Partitions) words graph = PassesPartitions words
PlaceGives (Err Evidence) words graph = PassesNumbers words
