-- What stands at a stage, and how the answer of a run tells of its log.
use Rattle.std.proofs.Common.{◌≡◌, ◌↔◌, ◌+◌, ℕ, Bool, List, length, Result, Ok, Err, ◌∙◌, sym, refl, ap, subst}
use Rattle.invariants.specs.declared.Invariant.{Invariant}
use Rattle.invariants.specs.declared.Kinds.{Kinds}
use Rattle.cell_pool.specs.Numbers.{Numbers}
use Rattle.cell_pool.specs.RunLists.{RunLists}
use Rattle.run_history.specs.Records.{splits_of, merges_of, blocks_of}
use Rattle.traces.specs.Words.{Log}
use Rattle.models.specs.Models.{TypedWords, mined_of, typed_words}
use Rattle.models.specs.Histories.{first_new}
use Rattle.partition_model.specs.Assignments.{G}
use Rattle.partition_graph.specs.Parts.{Parts}
use Rattle.labelling.specs.Labelled.{Labelling, SaysSatisfied}
use Rattle.infer_core.specs.declared.workbench.InferLimit.{InferLimit}
use Rattle.infer_core.specs.declared.workbench.InferLimit.TheVariants.{Partitions, Evidence}
use Rattle.infer_core.specs.declared.workbench.Stage.{Stage}
use Rattle.infer_core.specs.declared.workbench.Stage.TheVariants.{Opened, Inferred, Placed, Refused}
use Rattle.infer_core.specs.Runs.{PassesNumbers, PassesPartitions}
use Rattle.infer_core.specs.Ends.{HasEnded, IsPlaced, PlaceGives, RunGives}
use Rattle.infer_core.specs.Workbenches.{whole_of, Knows, WorkbenchView, HasParts, IsAtStart, IsAtEnd, IsAtPlaces, Stands}
use Rattle.infer_core.proofs.Excluding.{blocks-fit, both-exclude, numbers-exclude, partitions-exclude}

-- what stands in an opened workbench
pub stands-opened : (b : WorkbenchView) (stage : Stage) (kinds : Kinds) (log : Log) (invs : List Invariant) (graph : Parts) (numbers : List ℕ) (stitcher : ℕ) (planes : Labelling) (spans : Numbers) (run : RunLists)
    → record { kinds = kinds; log = log; stage = stage } ≡ b → b.stage ≡ Opened → Stands stage kinds log invs graph numbers stitcher planes spans run → IsAtStart kinds log invs graph numbers stitcher planes spans run
stands-opened b stage kinds log invs graph numbers stitcher planes spans run e o s =
    subst (λ (x : Stage). Stands x kinds log invs graph numbers stitcher planes spans run) (ap (λ (x : WorkbenchView). x.stage) e ∙ o) s

-- and what its flags say
pub knows-opened : (b : WorkbenchView) (stage : Stage) (kinds : Kinds) (log : Log) (invs : List Invariant) (graph : Parts) (flags : List Bool) → record { kinds = kinds; log = log; stage = stage } ≡ b → b.stage ≡ Opened
    → Knows stage graph invs flags → (length flags ≡ length invs) × SaysSatisfied (G graph.traces) invs flags
knows-opened b stage kinds log invs graph flags e o k = subst (λ (x : Stage). Knows x graph invs flags) (ap (λ (x : WorkbenchView). x.stage) e ∙ o) k

-- and in one whose inference is done
pub stands-inferred : (b : WorkbenchView) (stage : Stage) (kinds : Kinds) (log : Log) (invs : List Invariant) (graph : Parts) (numbers : List ℕ) (stitcher : ℕ) (planes : Labelling) (spans : Numbers) (run : RunLists)
    → record { kinds = kinds; log = log; stage = stage } ≡ b → b.stage ≡ Inferred → Stands stage kinds log invs graph numbers stitcher planes spans run → IsAtEnd kinds log invs graph numbers spans run
stands-inferred b stage kinds log invs graph numbers stitcher planes spans run e o s =
    subst (λ (x : Stage). Stands x kinds log invs graph numbers stitcher planes spans run) (ap (λ (x : WorkbenchView). x.stage) e ∙ o) s

-- a run that ended has placed the events
pub ended-places : (words : TypedWords) (graph : Parts) (spans : Numbers) (run : RunLists) → HasEnded words graph spans run → IsPlaced words graph
ended-places words graph spans run e =
    let parts : Parts = record { traces = graph.traces; used = first_new words + length (splits_of run spans) } in
    record {
      splits = splits_of run spans;
      refined = e.refined;
      refines = e.refines;
      ids = e.ids;
      merges = merges_of run;
      coarsens = e.coarsens;
      fits = blocks-fit (mined_of words) parts (splits_of run spans) (blocks_of run spans) e.blocks e.numbers;
    }

pub run-places : (r : Result (Unit {0}) InferLimit) (words : TypedWords) (graph : Parts) (spans : Numbers) (run : RunLists)
    → RunGives r words graph spans run → PlaceGives r words graph
run-places (Ok done) words graph spans run e = ended-places words graph spans run e
run-places (Err Partitions) words graph spans run e = e
run-places (Err Evidence) words graph spans run e = e

parts-stand : (stage : Stage) (kinds : Kinds) (log : Log) (invs : List Invariant) (graph : Parts) (numbers : List ℕ) (stitcher : ℕ) (planes : Labelling) (spans : Numbers) (run : RunLists)
    → HasParts stage → Stands stage kinds log invs graph numbers stitcher planes spans run → IsAtPlaces kinds log graph numbers
parts-stand Opened kinds log invs graph numbers stitcher planes spans run h s = absurd h
parts-stand Inferred kinds log invs graph numbers stitcher planes spans run h s =
    record { all = s.all; few = s.few; placed = ended-places (typed_words kinds log) (whole_of numbers graph) spans run s.ended }
parts-stand Placed kinds log invs graph numbers stitcher planes spans run h s = s
parts-stand Refused kinds log invs graph numbers stitcher planes spans run h s = absurd h

-- what stands where the final ids of the events are known
pub stands-placed : (b : WorkbenchView) (stage : Stage) (kinds : Kinds) (log : Log) (invs : List Invariant) (graph : Parts) (numbers : List ℕ) (stitcher : ℕ) (planes : Labelling) (spans : Numbers) (run : RunLists)
    → record { kinds = kinds; log = log; stage = stage } ≡ b → HasParts b.stage → Stands stage kinds log invs graph numbers stitcher planes spans run → IsAtPlaces kinds log graph numbers
stands-placed b stage kinds log invs graph numbers stitcher planes spans run e h s =
    parts-stand stage kinds log invs graph numbers stitcher planes spans run (subst HasParts (sym (ap (λ (x : WorkbenchView). x.stage) e)) h) s

-- each limit comes exactly where it is passed
pub partitions-told : (r : Result (Unit {0}) InferLimit) (words : TypedWords) (graph : Parts) → PlaceGives r words graph → (r ≡ Err Partitions) ↔ PassesPartitions words
partitions-told (Ok done) words graph e = (λ q. absurd cc, λ p. absurd (partitions-exclude words e.splits e.refined e.refines e.ids p))
partitions-told (Err Partitions) words graph e = (λ q. e, λ p. refl)
partitions-told (Err Evidence) words graph e = (λ q. absurd cc, λ p. absurd (both-exclude words p e))

-- the limit on numbers comes exactly where it is passed
pub evidence-told : (r : Result (Unit {0}) InferLimit) (words : TypedWords) (graph : Parts) → PlaceGives r words graph → (r ≡ Err Evidence) ↔ PassesNumbers words
evidence-told (Ok done) words graph e = (λ q. absurd cc, λ p. absurd (numbers-exclude words e.splits e.refined e.merges graph.traces e.refines e.coarsens e.fits p))
evidence-told (Err Partitions) words graph e = (λ q. absurd cc, λ p. absurd (both-exclude words e p))
evidence-told (Err Evidence) words graph e = (λ q. e, λ p. refl)
