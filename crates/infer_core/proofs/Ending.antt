-- What a run leaves.
use Rattle.std.proofs.Common.{◌≡◌, ℕ, ◌+◌, ◌<◌, ◌≤◌, List, [], ◌∷◌, ◌++◌, map, length, sym, ◌∙◌, ap, subst, subst₂, arith, length-append}
use Rattle.std.proofs.lemmas.List.Concat.{length-flat_map}
use Rattle.limits.specs.declared.TheConstants.{MAX_PAIRS, MAX_PARTITIONS, MAX_PATH_NUMBERS}
use Rattle.invariants.specs.declared.Invariant.{Invariant}
use Rattle.invariants.specs.declared.records.Split.{Split}
use Rattle.invariants.specs.declared.records.Merge.{Merge}
use Rattle.invariants.specs.declared.records.Block.{Block}
use Rattle.cell_pool.specs.declared.run_log.SplitEntry.{SplitEntry}
use Rattle.cell_pool.specs.Numbers.{Numbers, KeepsLists}
use Rattle.cell_pool.specs.RunLists.{RunLists}
use Rattle.run_history.specs.Records.{split_of, splits_of, merges_of, blocks_of, HoldsPaths}
use Rattle.run_history.proofs.Adding.{splits-stay}
use Rattle.model_shape.specs.Numbers.{split_numbers, block_numbers}
use Rattle.partition_model.specs.Assignments.{Assignment, G, IsTyped}
use Rattle.partition_model.specs.Refinement.{IsNextSplit, IsRefined, Refines, SatisfiesAll, Splits}
use Rattle.partition_model.specs.Coarsening.{merge, Coarsens, AreBlocks, NoMerge}
use Rattle.partition_bounds.specs.Pairs.{pairs_below}
use Rattle.partition_bounds.proofs.Pairing.{pairs_within_limit}
use Rattle.models.specs.Models.{TypedWords, mined_of}
use Rattle.models.specs.Histories.{first_new}
use Rattle.partition_graph.specs.Parts.{Parts}
use Rattle.labelling.specs.Labelled.{Labelling}
use Rattle.splitter.specs.Refining.{EndsRefined, IsFull, IsStopped}
use Rattle.splitter.specs.Writing.{AreEmpty, WritesSplits}
use Rattle.splitter.proofs.WritingTurns.{paths-long}
use Rattle.coarsener.specs.Blocking.{pair_count, EndsWithoutRoom, paths_of as block_paths}
use Rattle.coarsener.specs.Marking.{AreMarksNow}
use Rattle.coarsener.proofs.Ended.{coarsened-none, holds-merged, refined-satisfies}
use Rattle.infer_core.specs.Runs.{first_parts, CountsAtMost, PassesNumbers, PassesPartitions}
use Rattle.infer_core.specs.Ends.{BeginsWith, HasEnded, IsCoarsened, IsPlaced, IsReady}
use Rattle.infer_core.proofs.Excluding.{blocks-fit}
use Rattle.infer_core.proofs.Pairs.{pairs-fewer}

-- after refinement the graph satisfies what the planes were made for
pub refined-keeps : (invs listed : List Invariant) (old new : Parts) (splits : List Split) → listed ≡ invs → EndsRefined invs old splits new → SatisfiesAll (G new.traces) listed
refined-keeps invs listed old new splits e r =
    subst (λ (xs : List Invariant). SatisfiesAll (G new.traces) xs) (sym e) (refined-satisfies invs splits old.traces old.used new.traces r.run)

-- refinement writes no merge
pub merges-none : (run run' : RunLists) (spans spans' : Numbers) → AreEmpty run spans → WritesSplits run run' spans spans' → run'.merges ≡ []
merges-none run run' spans spans' e w = ap (λ (x : RunLists). x.merges) w.log_is ∙ e.merges

-- refinement writes no block
pub blocks-none : (run run' : RunLists) (spans spans' : Numbers) → AreEmpty run spans → WritesSplits run run' spans spans' → run'.blocks ≡ []
blocks-none run run' spans spans' e w = ap (λ (x : RunLists). x.blocks) w.log_is ∙ e.blocks

-- refinement leaves the room for merges
pub merge-room : (run run' : RunLists) (spans spans' : Numbers) → WritesSplits run run' spans spans' → run'.merge_room ≡ run.merge_room
merge-room run run' spans spans' w = ap (λ (x : RunLists). x.merge_room) w.log_is

-- refinement leaves the room for blocks
pub block-room : (run run' : RunLists) (spans spans' : Numbers) → WritesSplits run run' spans spans' → run'.block_room ≡ run.block_room
block-room run run' spans spans' w = ap (λ (x : RunLists). x.block_room) w.log_is

-- refinement leaves the room for the numbers of paths
pub numbers-room : (run run' : RunLists) (spans spans' : Numbers) → WritesSplits run run' spans spans' → spans'.room ≡ spans.room
numbers-room run run' spans spans' w = ap (λ (x : Numbers). x.room) w.spans_are

-- there is a room for the block of each pair
pub pairs-room : (parts : Parts) (room : ℕ) → parts.used ≤ MAX_PARTITIONS → MAX_PAIRS ≤ room → pair_count parts ≤ room
pairs-room parts room few l = omega (arith, pairs_within_limit (G parts.traces) parts.used few)

-- a run that stopped in refinement
pub stopped-passes : (words : TypedWords) (invs : List Invariant) (old new : Parts) (splits : List Split) (counted : ℕ) → BeginsWith words invs old
    → IsFull invs new → IsStopped invs old new splits counted → PassesPartitions words
stopped-passes words invs old new splits counted b f s =
    let e : invs ≡ mined_of words = b.mined in
    let p : old ≡ first_parts words = b.first in
    let u : old.used ≡ first_new words = ap (λ (x : Parts). x.used) p in
    record {
      splits = splits;
      now = new.traces;
      run = subst₂ (λ (xs : List Invariant) (x : Parts). Splits xs x.traces x.used splits new.traces) e p s.run;
      full = omega (arith, s.used, f.used);
      next = f.next;
      is_next = subst (λ (xs : List Invariant). IsNextSplit xs new.traces f.next) e f.is_next;
    }

-- what a run has left where coarsening ended: run1 and parts1 stand after refinement, run2 and parts2 after coarsening
pub coarsened-is : (invs : List Invariant) (old parts1 parts2 : Parts) (stitcher : ℕ) (planes0 planes1 planes2 : Labelling) (run0 run1 run2 : RunLists) (spans0 spans1 : Numbers) (s0 s1 s2 : ℕ)
    → IsReady invs old stitcher planes0 spans0 run0 → planes1.invs ≡ invs → WritesSplits run0 run1 spans0 spans1 → EndsRefined invs old (splits_of run1 spans1) parts1 → IsTyped parts1.traces
    → s0 ≤ s1 → s1 ≤ s0 + length invs + length (splits_of run1 spans1)
    → Coarsens planes1.invs parts1.traces (merges_of run2) parts2.traces → parts2.used ≡ parts1.used → run2 ≡ record run1 { merges = run2.merges }
    → planes2.invs ≡ planes1.invs → (0 < pair_count parts2 → AreMarksNow planes2 parts2) → s1 ≤ s2 → s2 ≤ s1 + pair_count parts1
    → IsCoarsened invs old parts2 planes2 spans1 run2 s0 s2
coarsened-is invs old parts1 parts2 stitcher planes0 planes1 planes2 run0 run1 run2 spans0 spans1 s0 s1 s2 ready same writes refines typed start few1 merged used others list marks more few2 =
    let coarsens : Coarsens invs parts1.traces (merges_of run2) parts2.traces = subst (λ (xs : List Invariant). Coarsens xs parts1.traces (merges_of run2) parts2.traces) same merged in
    let splits : splits_of run1 spans1 ≡ splits_of run2 spans1 = ap (λ (x : RunLists). splits_of x spans1) (sym others) in
    let fewer : length (pairs_below parts1.used (G parts2.traces)) ≤ length (pairs_below parts1.used (G parts1.traces)) =
    pairs-fewer invs (merges_of run2) parts1.traces parts2.traces parts1.used typed coarsens in
    let all : pair_count parts1 ≡ length (pairs_below parts2.used (G parts1.traces)) = ap (λ (u : ℕ). length (pairs_below u (G parts1.traces))) (sym used) in
    let count : length (splits_of run1 spans1) ≡ length (splits_of run2 spans1) = ap (λ (ss : List Split). length ss) splits in
    let within : parts2.used ≤ MAX_PARTITIONS = omega (arith, used, refines.within) in
    record {
      refined = parts1.traces;
      refines = subst (λ (ss : List Split). Refines invs old.traces old.used ss parts1.traces) splits refines.run;
      used = omega (arith, used, refines.used, count);
      within = within;
      coarsens = coarsens;
      fewer = subst (λ (u : ℕ). length (pairs_below u (G parts2.traces)) ≤ length (pairs_below u (G parts1.traces))) (sym used) fewer;
      listed = list ∙ same;
      marks = marks;
      none = ap (λ (x : RunLists). x.blocks) others ∙ blocks-none run0 run1 spans0 spans1 ready.empty writes;
      room = pairs-room parts2 run2.block_room within (omega (arith, ap (λ (x : RunLists). x.block_room) others, block-room run0 run1 spans0 spans1 writes, ready.blocks));
      numbers = numbers-room run0 run1 spans0 spans1 writes ∙ ready.numbers;
      long = ap (λ (x : Numbers). length x.numbers) writes.spans_are ∙ paths-long (splits_of run1 spans1) ∙ ap (λ (ss : List Split). split_numbers ss) splits;
      paths = holds-merged run1 run2 spans1 others writes.paths;
      more = omega (arith, start, more);
      few = omega (arith, few1, few2, all, count);
    }

-- after coarsening the graph still satisfies the invariants
coarsened-satisfies : (invs : List Invariant) (merges : List Merge) (h end : Assignment) → SatisfiesAll (G h) invs → Coarsens invs h merges end → SatisfiesAll (G end) invs
coarsened-satisfies invs [] h end s w = subst (λ (x : Assignment). SatisfiesAll (G x) invs) (sym w.1) s
coarsened-satisfies invs (m ∷ merges) h end s w = coarsened-satisfies invs merges (merge m.p m.q h) end w.0.keeps w.1

-- there the graph still satisfies the invariants
pub coarsened-keeps : (invs : List Invariant) (old graph : Parts) (planes : Labelling) (spans : Numbers) (run : RunLists) (before after : ℕ) → IsCoarsened invs old graph planes spans run before after
    → SatisfiesAll (G graph.traces) invs
coarsened-keeps invs old graph planes spans run before after c =
    coarsened-satisfies invs (merges_of run) c.refined graph.traces (refined-satisfies invs (splits_of run spans) old.traces old.used c.refined c.refines) c.coarsens

-- and each further merge loses one
pub coarsened-loses : (invs : List Invariant) (old graph : Parts) (planes : Labelling) (spans : Numbers) (run : RunLists) (before after : ℕ) → IsCoarsened invs old graph planes spans run before after
    → NoMerge invs graph.traces
coarsened-loses invs old graph planes spans run before after c = coarsened-none invs (merges_of run) c.refined graph.traces c.coarsens

module _ (words : TypedWords) (invs : List Invariant) (old graph : Parts) (planes : Labelling) (spans : Numbers) (run : RunLists) (before after : ℕ)
    (b : BeginsWith words invs old) (c : IsCoarsened invs old graph planes spans run before after) where
  used-is : old.used ≡ first_new words
  used-is = ap (λ (x : Parts). x.used) b.first

  ids-are : graph.used ≡ first_new words + length (splits_of run spans)
  ids-are = omega (arith, c.used, used-is)

  ids-few : first_new words + length (splits_of run spans) ≤ MAX_PARTITIONS
  ids-few = omega (arith, ids-are, c.within)

  refined : IsRefined (mined_of words) (length words.types) words.words (splits_of run spans) c.refined
  refined = subst₂ (λ (xs : List Invariant) (x : Parts). Refines xs x.traces x.used (splits_of run spans) c.refined) b.mined b.first c.refines

  coarsened : Coarsens (mined_of words) c.refined (merges_of run) graph.traces
  coarsened = subst (λ (xs : List Invariant). Coarsens xs c.refined (merges_of run) graph.traces) b.mined c.coarsens

  -- at most one step more is counted for each pair that is left, and one more
  pub coarsened-counts : (end : ℕ) → after ≤ end → end ≤ after + pair_count graph + 1 → CountsAtMost words before end
  coarsened-counts end more few =
      let all : length (pairs_below graph.used (G c.refined)) ≡ length (pairs_below (first_new words + length (splits_of run spans)) (G c.refined)) =
      ap (λ (u : ℕ). length (pairs_below u (G c.refined))) ids-are in
      let m : length invs ≡ length (mined_of words) = ap (λ (xs : List Invariant). length xs) b.mined in
      record {
        splits = splits_of run spans;
        refined = c.refined;
        refines = refined;
        more = omega (arith, c.more, more);
        steps = omega (arith, c.few, c.fewer, few, all, m);
      }

  -- where the paths are known to fit, the events are placed
  pub fit-places : (held : ℕ) → held ≡ length spans.numbers → ((xs : List Invariant) (blocks : List Block) → EndsWithoutRoom xs graph blocks (held + block_numbers blocks) → ⊥)
      → IsPlaced words graph
  fit-places held same-held fit =
      let parts : Parts = record { traces = graph.traces; used = first_new words + length (splits_of run spans) } in
      let same : parts ≡ graph = λ d. record { traces = graph.traces; used = sym ids-are d } in
      record {
        splits = splits_of run spans;
        refined = c.refined;
        refines = refined;
        ids = ids-few;
        merges = merges_of run;
        coarsens = coarsened;
        fits = λ blocks w. fit (mined_of words) blocks
            (subst₂ (λ (x : Parts) (n : ℕ). EndsWithoutRoom (mined_of words) x blocks (n + block_numbers blocks)) same (sym (same-held ∙ c.long)) w);
      }

-- what is known of a run where blocks were begun: run1 and spans1 stand before them, run2 and spans2 after them
pub record IsRun (invs : List Invariant) (old graph : Parts) (planes : Labelling) (run1 run2 : RunLists) (spans1 spans2 : Numbers) (before after : ℕ) : Type 0 where
  pub coarsened : IsCoarsened invs old graph planes spans1 run1 before after
  pub blocked : run2 ≡ record run1 { blocks = run2.blocks }
  pub paths : spans2 ≡ record spans1 { numbers = spans1.numbers ++ block_paths (blocks_of run2 spans2) }
  pub stays : KeepsLists spans1.numbers spans2.numbers

module _ (words : TypedWords) (invs : List Invariant) (old graph : Parts) (planes : Labelling) (run1 run2 : RunLists) (spans1 spans2 : Numbers) (before after : ℕ)
    (b : BeginsWith words invs old) (r : IsRun invs old graph planes run1 run2 spans1 spans2 before after) where
  -- the splits and the merges stay where they are
  splits-are : splits_of run1 spans1 ≡ splits_of run2 spans2
  splits-are =
      let e : run2.splits ≡ run1.splits = ap (λ (x : RunLists). x.splits) r.blocked in
      sym (ap (λ (es : List SplitEntry). map (split_of spans2.numbers) es) e ∙ splits-stay spans1.numbers spans2.numbers run1.splits r.stays r.coarsened.paths.splits)

  merges-are : merges_of run1 ≡ merges_of run2
  merges-are = ap (λ (x : RunLists). merges_of x) (sym r.blocked)

  refined-still : IsRefined (mined_of words) (length words.types) words.words (splits_of run2 spans2) r.coarsened.refined
  refined-still =
      subst (λ (ss : List Split). IsRefined (mined_of words) (length words.types) words.words ss r.coarsened.refined) splits-are
      (refined words invs old graph planes spans1 run1 before after b r.coarsened)

  coarsened-still : Coarsens (mined_of words) r.coarsened.refined (merges_of run2) graph.traces
  coarsened-still =
      subst (λ (ms : List Merge). Coarsens (mined_of words) r.coarsened.refined ms graph.traces) merges-are
      (coarsened words invs old graph planes spans1 run1 before after b r.coarsened)

  ids-still : graph.used ≡ first_new words + length (splits_of run2 spans2)
  ids-still = omega (arith, ids-are words invs old graph planes spans1 run1 before after b r.coarsened, ap (λ (ss : List Split). length ss) splits-are)

  -- how many numbers the paths have
  numbers-are : length spans2.numbers ≡ split_numbers (splits_of run2 spans2) + block_numbers (blocks_of run2 spans2)
  numbers-are =
      let e : length spans2.numbers ≡ length (spans1.numbers ++ block_paths (blocks_of run2 spans2)) = ap (λ (x : Numbers). length x.numbers) r.paths in
      let s : length (spans1.numbers ++ block_paths (blocks_of run2 spans2)) ≡ length spans1.numbers + length (block_paths (blocks_of run2 spans2)) =
      length-append spans1.numbers (block_paths (blocks_of run2 spans2)) in
      let p : length (block_paths (blocks_of run2 spans2)) ≡ block_numbers (blocks_of run2 spans2) = length-flat_map (λ (x : Block). x.path) (blocks_of run2 spans2) in
      let q : split_numbers (splits_of run1 spans1) ≡ split_numbers (splits_of run2 spans2) = ap (λ (ss : List Split). split_numbers ss) splits-are in
      omega (arith, r.coarsened.long)

  -- a run that stopped at a block
  pub blocked-passes : EndsWithoutRoom invs graph (blocks_of run2 spans2) (length spans2.numbers) → PassesNumbers words
  blocked-passes w =
      let held : ℕ = split_numbers (splits_of run2 spans2) + block_numbers (blocks_of run2 spans2) in
      let parts : Parts = record { traces = graph.traces; used = first_new words + length (splits_of run2 spans2) } in
      let same : graph ≡ parts = λ d. record { traces = graph.traces; used = ids-still d } in
      record {
        splits = splits_of run2 spans2;
        refined = r.coarsened.refined;
        refines = refined-still;
        within = omega (arith, ids-still, r.coarsened.within);
        merges = merges_of run2;
        end = graph.traces;
        coarsens = coarsened-still;
        blocks = blocks_of run2 spans2;
        ends = subst₂ (λ (xs : List Invariant) (x : Parts). EndsWithoutRoom xs x (blocks_of run2 spans2) held) b.mined same
            (subst (λ (n : ℕ). EndsWithoutRoom invs graph (blocks_of run2 spans2) n) numbers-are w);
      }

  -- a run that ended
  pub ended : AreBlocks invs (G graph.traces) (blocks_of run2 spans2) → length spans2.numbers ≤ MAX_PATH_NUMBERS → HoldsPaths run2 spans2 → HasEnded words graph spans2 run2
  ended blocks within paths = record {
    refined = r.coarsened.refined;
    refines = refined-still;
    ids = omega (arith, ids-still, r.coarsened.within);
    coarsens = coarsened-still;
    blocks = subst (λ (xs : List Invariant). AreBlocks xs (G graph.traces) (blocks_of run2 spans2)) b.mined blocks;
    numbers = omega (arith, numbers-are, within);
    paths = paths;
  }

  -- and one that only places the events
  pub blocks-place : AreBlocks invs (G graph.traces) (blocks_of run2 spans2) → length spans2.numbers ≤ MAX_PATH_NUMBERS → IsPlaced words graph
  blocks-place blocks within =
      let parts : Parts = record { traces = graph.traces; used = first_new words + length (splits_of run2 spans2) } in
      record {
        splits = splits_of run2 spans2;
        refined = r.coarsened.refined;
        refines = refined-still;
        ids = omega (arith, ids-still, r.coarsened.within);
        merges = merges_of run2;
        coarsens = coarsened-still;
        fits = blocks-fit (mined_of words) parts (splits_of run2 spans2) (blocks_of run2 spans2)
            (subst (λ (xs : List Invariant). AreBlocks xs (G graph.traces) (blocks_of run2 spans2)) b.mined blocks) (omega (arith, numbers-are, within));
      }
