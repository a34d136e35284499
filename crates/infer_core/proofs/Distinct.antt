-- What the run of the distinct words of a log tells of the log.
use Rattle.std.proofs.Common.{◌≡◌, ℕ, ◌+◌, ◌<◌, ◌≤◌, List, length, Result, Ok, Err, sum_by, sym, ◌∙◌, ap, subst, subst₂, arith}
use Rattle.std.specs.List.{AllByRecursion}
use Rattle.limits.specs.declared.TheConstants.{FIRST_TYPE, MAX_EVENTS}
use Rattle.invariants.specs.declared.Invariant.{Invariant}
use Rattle.invariants.specs.declared.Kinds.{Kinds}
use Rattle.invariants.specs.declared.records.Block.{Block}
use Rattle.invariants.specs.declared.records.Merge.{Merge}
use Rattle.invariants.specs.declared.records.Split.{Split}
use Rattle.model_shape.specs.Numbers.{split_numbers, block_numbers}
use Rattle.cell_pool.specs.Numbers.{Numbers}
use Rattle.cell_pool.specs.RunLists.{RunLists}
use Rattle.run_history.specs.Records.{splits_of, merges_of, blocks_of}
use Rattle.traces.specs.Words.{Log}
use Rattle.partition_model.specs.Graphs.{Graph}
use Rattle.partition_model.specs.Assignments.{Event, Assignment, G, IsTyped, events, members, by_type, inner_words}
use Rattle.partition_model.specs.Refinement.{IsNextSplit, IsRefined, Refines, Splits}
use Rattle.partition_model.specs.Coarsening.{Coarsens, AreBlocks, IsBlock}
use Rattle.partition_model.specs.Laws.{AreTyped, HoldAll, IsRun, Keeps}
use Rattle.partition_model.proofs.Lists.{In, all_in, all_from, count-member, member-of}
use Rattle.partition_model.proofs.Runs.{words-typed, start-run, runs_keep}
use Rattle.partition_model.proofs.Keeping.{refinement_keeps, coarsening_keeps}
use Rattle.partition_bounds.specs.Pairs.{pairs_below}
use Rattle.models.specs.Models.{TypedWords, mined_of, typed_words}
use Rattle.partition_graph.specs.Parts.{Parts, inner_words_of, start_of}
use Rattle.partition_graph.specs.Spread.{spread, AreAllOf, SharesWords}
use Rattle.labelling.specs.Labelled.{Labelling}
use Rattle.splitter.specs.Refining.{IsOpened}
use Rattle.coarsener.specs.Blocking.{EndsWithoutRoom}
use Rattle.infer_core.specs.declared.workbench.InferLimit.{InferLimit}
use Rattle.infer_core.specs.declared.workbench.InferLimit.TheVariants.{Partitions, Evidence}
use Rattle.infer_core.specs.Runs.{CountsAtMost, PassesNumbers, PassesPartitions}
use Rattle.infer_core.specs.Ends.{BeginsWith, HasEnded, IsPlaced, PlaceGives, RunGives}
use Rattle.infer_core.specs.Workbenches.{whole_of, IsAtStart, IsAtEnd, IsAtPlaces}
use Rattle.infer_core.proofs.Sharing.{Alike, all-alike, event-over, word-over, words-as, events-count, mined-as, hold-over, graph-over, refines-over, splits-over, next-over, coarsens-over}

-- whether the list of blocks runs out of room depends only on the graph of the assignment
room-over : (invs invs' : List Invariant) (h h' : Assignment) (n : ℕ) (blocks : List Block) (held : ℕ) → invs ≡ invs' → G h ≡ G h'
    → EndsWithoutRoom invs (record { traces = h; used = n }) blocks held → EndsWithoutRoom invs' (record { traces = h'; used = n }) blocks held
room-over invs invs' h h' n blocks held i g w = record {
  next = w.next;
  rest = w.rest;
  pairs = w.pairs ∙ ap (λ (x : Graph). pairs_below n x) g;
  each = subst₂ (λ (xs : List Invariant) (x : Graph). AllByRecursion (IsBlock xs x) blocks) i g w.each;
  is_block = subst₂ (λ (xs : List Invariant) (x : Graph). IsBlock xs x w.next) i g w.is_block;
  too_long = w.too_long;
}

-- the words of the graph, with the kinds that are asked for and the types of the log
abbrev pub distinct : Kinds → Log → Parts → TypedWords
distinct kinds log graph = record { kinds = kinds; types = log.types; words = inner_words graph.traces }

module _ (kinds : Kinds) (log : Log) (graph : Parts) (numbers : List ℕ) (s : SharesWords log graph numbers) where
  -- each word of the graph is one of the log, and the other way round
  alike : Alike graph.traces (spread numbers graph.traces)
  alike = all-alike numbers graph.traces s.all

  words-are : inner_words (spread numbers graph.traces) ≡ inner_words_of log
  words-are = ap (λ (x : Assignment). inner_words x) s.spreads ∙ words-typed (inner_words_of log)

  word-to : (w : List ℕ) → In w (inner_words graph.traces) → In w (inner_words_of log)
  word-to w i = subst (λ (ws : List (List ℕ)). In w ws) words-are (word-over graph.traces (spread numbers graph.traces) alike.to w i)

  word-from : (w : List ℕ) → In w (inner_words_of log) → In w (inner_words graph.traces)
  word-from w i = word-over (spread numbers graph.traces) graph.traces alike.from w (subst (λ (ws : List (List ℕ)). In w ws) (sym words-are) i)

  -- so the same is mined of both
  pub mined-same : mined_of (distinct kinds log graph) ≡ mined_of (typed_words kinds log)
  mined-same = mined-as kinds (length log.types) (inner_words graph.traces) (inner_words_of log) word-to word-from

  -- what holds of each trace holds of each distinct word
  pub hold-few : (invs : List Invariant) → HoldAll (inner_words_of log) invs → HoldAll (inner_words graph.traces) invs
  hold-few invs a = hold-over (inner_words graph.traces) (inner_words_of log) invs word-to a

  -- and both have the same types
  typed-few : (n : ℕ) → AreTyped (inner_words_of log) n → AreTyped (inner_words graph.traces) n
  typed-few n a = record {
    two = a.two;
    range = subst (λ (x : Assignment). AllByRecursion (λ e. (FIRST_TYPE ≤ e.typ) × (e.typ < n)) (events x)) s.start
        (all_from (λ e. (FIRST_TYPE ≤ e.typ) × (e.typ < n)) (events graph.traces) (λ e i.
        all_in (λ e. (FIRST_TYPE ≤ e.typ) × (e.typ < n)) e (events (by_type (inner_words_of log))) a.range
        (subst (λ (x : Assignment). In e (events x)) s.spreads (event-over graph.traces (spread numbers graph.traces) alike.to e i))));
    each = λ p l m.
        let o : (e : Event) × In e (events (by_type (inner_words_of log))) × (e.id ≡ p) = member-of p (events (by_type (inner_words_of log))) (a.each p l m) in
        let i : In o.0 (events graph.traces) =
        event-over (spread numbers graph.traces) graph.traces alike.from o.0 (subst (λ (x : Assignment). In o.0 (events x)) (sym s.spreads) o.1) in
        subst (λ (x : Assignment). 0 < members x p) s.start (count-member p o.0 (events graph.traces) i o.2);
  }

  -- the first graph of the distinct words can be refined where that of the log can
  pub opened-few : IsOpened (start_of log) → IsOpened graph
  opened-few o = record {
    start = s.start;
    typed = subst (λ (n : ℕ). AreTyped (inner_words graph.traces) n) (sym s.used)
        (typed-few (length log.types + FIRST_TYPE) (subst (λ (ws : List (List ℕ)). AreTyped ws (length log.types + FIRST_TYPE)) (words-typed (inner_words_of log)) o.typed));
  }

  -- the first graph of the distinct words becomes that of the log
  start-whole : spread numbers (by_type (inner_words graph.traces)) ≡ by_type (inner_words_of log)
  start-whole = ap (λ (x : Assignment). spread numbers x) (sym s.start) ∙ s.spreads

  all-start : AreAllOf numbers (by_type (inner_words graph.traces))
  all-start = subst (λ (x : Assignment). AreAllOf numbers x) s.start s.all

  module _ (typed : AreTyped (inner_words graph.traces) (length log.types + FIRST_TYPE)) (hold : HoldAll (inner_words graph.traces) (mined_of (distinct kinds log graph))) where
    -- refinement
    refined-whole : (splits : List Split) (end : Assignment) → IsRefined (mined_of (distinct kinds log graph)) (length log.types) (inner_words graph.traces) splits end
        → IsRefined (mined_of (typed_words kinds log)) (length log.types) (inner_words_of log) splits (spread numbers end) × AreAllOf numbers end × IsTyped end
    refined-whole splits end w =
        let n : ℕ = length log.types + FIRST_TYPE in
        let o : Refines (mined_of (distinct kinds log graph)) (spread numbers (by_type (inner_words graph.traces))) n splits (spread numbers end) × AreAllOf numbers end =
        refines-over (inner_words graph.traces) (mined_of (distinct kinds log graph)) numbers splits (by_type (inner_words graph.traces)) n end all-start (start-run (inner_words graph.traces) n typed) typed.two hold w in
        let k : Keeps (mined_of (distinct kinds log graph)) (inner_words graph.traces) end = refinement_keeps (mined_of (distinct kinds log graph)) (inner_words graph.traces) n splits end typed hold w in
        (subst₂ (λ (xs : List Invariant) (x : Assignment). Refines xs x n splits (spread numbers end)) mined-same start-whole o.0, o.1, k.typed)

    -- a refinement that stopped
    partitions-whole : PassesPartitions (distinct kinds log graph) → PassesPartitions (typed_words kinds log)
    partitions-whole p =
        let n : ℕ = length log.types + FIRST_TYPE in
        let o : Splits (mined_of (distinct kinds log graph)) (spread numbers (by_type (inner_words graph.traces))) n p.splits (spread numbers p.now) × AreAllOf numbers p.now =
        splits-over (inner_words graph.traces) (mined_of (distinct kinds log graph)) numbers p.splits (by_type (inner_words graph.traces)) n p.now all-start (start-run (inner_words graph.traces) n typed) typed.two hold p.run in
        let r : IsRun (inner_words graph.traces) p.now (n + length p.splits) = runs_keep (mined_of (distinct kinds log graph)) (inner_words graph.traces) n p.splits p.now typed hold p.run in
        record {
          splits = p.splits;
          now = spread numbers p.now;
          run = subst₂ (λ (xs : List Invariant) (x : Assignment). Splits xs x n p.splits (spread numbers p.now)) mined-same start-whole o.0;
          full = p.full;
          next = p.next;
          is_next = subst (λ (xs : List Invariant). IsNextSplit xs (spread numbers p.now) p.next) mined-same
              (next-over (mined_of (distinct kinds log graph)) numbers p.now p.next o.1 r.typed p.is_next);
        }

    -- a run that stopped at a block
    numbers-whole : PassesNumbers (distinct kinds log graph) → PassesNumbers (typed_words kinds log)
    numbers-whole p =
        let n : ℕ = length log.types + FIRST_TYPE in
        let o : IsRefined (mined_of (typed_words kinds log)) (length log.types) (inner_words_of log) p.splits (spread numbers p.refined) × AreAllOf numbers p.refined × IsTyped p.refined =
        refined-whole p.splits p.refined p.refines in
        let c : Coarsens (mined_of (distinct kinds log graph)) (spread numbers p.refined) p.merges (spread numbers p.end) × AreAllOf numbers p.end × IsTyped p.end =
        coarsens-over (mined_of (distinct kinds log graph)) numbers p.merges p.refined p.end o.1 o.2 p.coarsens in
        let g : G p.end ≡ G (spread numbers p.end) = graph-over p.end (spread numbers p.end) (all-alike numbers p.end c.1) c.2 in
        record {
          splits = p.splits;
          refined = spread numbers p.refined;
          refines = o.0;
          within = p.within;
          merges = p.merges;
          end = spread numbers p.end;
          coarsens = subst (λ (xs : List Invariant). Coarsens xs (spread numbers p.refined) p.merges (spread numbers p.end)) mined-same c.0;
          blocks = p.blocks;
          ends = room-over (mined_of (distinct kinds log graph)) (mined_of (typed_words kinds log)) p.end (spread numbers p.end) (n + length p.splits) p.blocks (split_numbers p.splits + block_numbers p.blocks) mined-same g p.ends;
        }

    module _ (end : Assignment) (splits : List Split) (refined : Assignment) (merges : List Merge)
        (r : IsRefined (mined_of (distinct kinds log graph)) (length log.types) (inner_words graph.traces) splits refined) (c : Coarsens (mined_of (distinct kinds log graph)) refined merges end) where
      -- a run whose refinement and coarsening ended
      refined-end : IsRefined (mined_of (typed_words kinds log)) (length log.types) (inner_words_of log) splits (spread numbers refined) × AreAllOf numbers refined × IsTyped refined
      refined-end = refined-whole splits refined r

      coarsened-end : Coarsens (mined_of (distinct kinds log graph)) (spread numbers refined) merges (spread numbers end) × AreAllOf numbers end × IsTyped end
      coarsened-end = coarsens-over (mined_of (distinct kinds log graph)) numbers merges refined end refined-end.1 refined-end.2 c

      coarsens-end : Coarsens (mined_of (typed_words kinds log)) (spread numbers refined) merges (spread numbers end)
      coarsens-end = subst (λ (xs : List Invariant). Coarsens xs (spread numbers refined) merges (spread numbers end)) mined-same coarsened-end.0

      pub graph-end : G end ≡ G (spread numbers end)
      graph-end = graph-over end (spread numbers end) (all-alike numbers end coarsened-end.1) coarsened-end.2

      -- each trace still has its number at the end
      pub all-end : AreAllOf numbers end
      all-end = coarsened-end.1

      -- it has the words of the log still
      words-end : inner_words (spread numbers end) ≡ inner_words_of log
      words-end =
          let n : ℕ = length log.types + FIRST_TYPE in
          let k : Keeps (mined_of (distinct kinds log graph)) (inner_words graph.traces) refined =
          refinement_keeps (mined_of (distinct kinds log graph)) (inner_words graph.traces) n splits refined typed hold r in
          let l : Keeps (mined_of (distinct kinds log graph)) (inner_words graph.traces) end =
          (coarsening_keeps (mined_of (distinct kinds log graph)) (inner_words graph.traces) refined merges end k c).0 in
          words-as numbers end graph.traces l.words_are ∙ words-are

      -- the spread graph has no more events than a log may have
      pub few-end : sum_by (λ w. length w) (inner_words_of log) ≤ MAX_EVENTS → length (events (spread numbers end)) ≤ MAX_EVENTS
      few-end few =
          let a : length (events (spread numbers end)) ≡ sum_by (λ (w : List ℕ). length w) (inner_words (spread numbers end)) = events-count (spread numbers end) in
          let b : sum_by (λ (w : List ℕ). length w) (inner_words (spread numbers end)) ≡ sum_by (λ (w : List ℕ). length w) (inner_words_of log) = ap (λ (ws : List (List ℕ)). sum_by (λ (w : List ℕ). length w) ws) words-end in
          omega (arith, a, b, few)

    -- the end of the run of the distinct words is that of the log
    pub ended-whole : (end : Parts) (spans : Numbers) (run : RunLists)
        → HasEnded (distinct kinds log graph) end spans run → HasEnded (typed_words kinds log) (whole_of numbers end) spans run
    ended-whole end spans run e =
        let g : G end.traces ≡ G (spread numbers end.traces) = graph-end end.traces (splits_of run spans) e.refined (merges_of run) e.refines e.coarsens in
        record {
          refined = spread numbers e.refined;
          refines = (refined-end end.traces (splits_of run spans) e.refined (merges_of run) e.refines e.coarsens).0;
          ids = e.ids;
          coarsens = coarsens-end end.traces (splits_of run spans) e.refined (merges_of run) e.refines e.coarsens;
          blocks = subst₂ (λ (xs : List Invariant) (x : Graph). AreBlocks xs x (blocks_of run spans)) mined-same g e.blocks;
          numbers = e.numbers;
          paths = e.paths;
        }

    -- so it is where the events are placed only
    pub placed-whole : (end : Parts) → IsPlaced (distinct kinds log graph) end → IsPlaced (typed_words kinds log) (whole_of numbers end)
    placed-whole end e =
        let n : ℕ = length log.types + FIRST_TYPE in
        let g : G end.traces ≡ G (spread numbers end.traces) = graph-end end.traces e.splits e.refined e.merges e.refines e.coarsens in
        record {
          splits = e.splits;
          refined = spread numbers e.refined;
          refines = (refined-end end.traces e.splits e.refined e.merges e.refines e.coarsens).0;
          ids = e.ids;
          merges = e.merges;
          coarsens = coarsens-end end.traces e.splits e.refined e.merges e.refines e.coarsens;
          fits = λ blocks w. e.fits blocks (room-over (mined_of (typed_words kinds log)) (mined_of (distinct kinds log graph)) (spread numbers end.traces) end.traces (n + length e.splits) blocks (split_numbers e.splits + block_numbers blocks) (sym mined-same) (sym g) w);
        }

    -- each answer of a run
    pub gives-whole : (r : Result (Unit {0}) InferLimit) (end : Parts) (spans : Numbers) (run : RunLists)
        → RunGives r (distinct kinds log graph) end spans run → RunGives r (typed_words kinds log) (whole_of numbers end) spans run
    gives-whole (Ok done) end spans run e = ended-whole end spans run e
    gives-whole (Err Partitions) end spans run e = partitions-whole e
    gives-whole (Err Evidence) end spans run e = numbers-whole e

    pub places-whole : (r : Result (Unit {0}) InferLimit) (end : Parts) → PlaceGives r (distinct kinds log graph) end → PlaceGives r (typed_words kinds log) (whole_of numbers end)
    places-whole (Ok done) end e = placed-whole end e
    places-whole (Err Partitions) end e = partitions-whole e
    places-whole (Err Evidence) end e = numbers-whole e

    -- and its count of steps
    pub counts-whole : (before after : ℕ) → CountsAtMost (distinct kinds log graph) before after → CountsAtMost (typed_words kinds log) before after
    counts-whole before after c =
        let n : ℕ = length log.types + FIRST_TYPE in
        let o : IsRefined (mined_of (typed_words kinds log)) (length log.types) (inner_words_of log) c.splits (spread numbers c.refined) × AreAllOf numbers c.refined × IsTyped c.refined =
        refined-whole c.splits c.refined c.refines in
        let g : G c.refined ≡ G (spread numbers c.refined) = graph-over c.refined (spread numbers c.refined) (all-alike numbers c.refined o.1) o.2 in
        let p : length (pairs_below (n + length c.splits) (G c.refined)) ≡ length (pairs_below (n + length c.splits) (G (spread numbers c.refined))) =
        ap (λ (x : Graph). length (pairs_below (n + length c.splits) x)) g in
        let m : length (mined_of (distinct kinds log graph)) ≡ length (mined_of (typed_words kinds log)) = ap (λ (xs : List Invariant). length xs) mined-same in
        record {
          splits = c.splits;
          refined = spread numbers c.refined;
          refines = o.0;
          more = c.more;
          steps = omega (arith, c.steps, p, m);
        }

-- what an opened workbench says of its distinct words
module _ (kinds : Kinds) (log : Log) (invs : List Invariant) (graph : Parts) (numbers : List ℕ) (stitcher : ℕ) (planes : Labelling) (spans : Numbers) (run : RunLists)
    (s : IsAtStart kinds log invs graph numbers stitcher planes spans run) where
  invs-are : invs ≡ mined_of (distinct kinds log graph)
  invs-are = s.mined ∙ sym (mined-same kinds log graph numbers s.shares)

  typed-start : AreTyped (inner_words graph.traces) (length log.types + FIRST_TYPE)
  typed-start = subst (λ (n : ℕ). AreTyped (inner_words graph.traces) n) s.shares.used s.ready.opened.typed

  hold-start : HoldAll (inner_words graph.traces) (mined_of (distinct kinds log graph))
  hold-start = subst (λ (xs : List Invariant). HoldAll (inner_words graph.traces) xs) invs-are s.ready.hold

  -- the run begins with them
  pub start-begins : BeginsWith (distinct kinds log graph) invs graph
  start-begins = record { mined = invs-are; first = λ d. record { traces = s.shares.start d; used = s.shares.used d } }

  -- and what it gives, it gives of the log
  pub start-gives : (r : Result (Unit {0}) InferLimit) (end : Parts) (spans' : Numbers) (run' : RunLists)
      → RunGives r (distinct kinds log graph) end spans' run' → RunGives r (typed_words kinds log) (whole_of numbers end) spans' run'
  start-gives r end spans' run' e = gives-whole kinds log graph numbers s.shares typed-start hold-start r end spans' run' e

  -- the steps that are counted are as few as the log allows
  pub start-counts : (before after : ℕ) → CountsAtMost (distinct kinds log graph) before after → CountsAtMost (typed_words kinds log) before after
  start-counts before after c = counts-whole kinds log graph numbers s.shares typed-start hold-start before after c

  pub start-places : (r : Result (Unit {0}) InferLimit) (end : Parts) → PlaceGives r (distinct kinds log graph) end → PlaceGives r (typed_words kinds log) (whole_of numbers end)
  start-places r end e = places-whole kinds log graph numbers s.shares typed-start hold-start r end e

  -- where the run ends, what stands is the end of the run of the log
  pub start-ends : (end : Parts) (spans' : Numbers) (run' : RunLists)
      → HasEnded (distinct kinds log graph) end spans' run' → IsAtEnd kinds log invs end numbers spans' run'
  start-ends end spans' run' e = record {
    mined = s.mined;
    within = s.within;
    same = sym (graph-end kinds log graph numbers s.shares typed-start hold-start end.traces (splits_of run' spans') e.refined (merges_of run') e.refines e.coarsens);
    all = all-end kinds log graph numbers s.shares typed-start hold-start end.traces (splits_of run' spans') e.refined (merges_of run') e.refines e.coarsens;
    few = few-end kinds log graph numbers s.shares typed-start hold-start end.traces (splits_of run' spans') e.refined (merges_of run') e.refines e.coarsens s.within.few_events;
    ended = ended-whole kinds log graph numbers s.shares typed-start hold-start end spans' run' e;
  }

  -- and where the events are placed only
  pub start-placed : (end : Parts) → IsPlaced (distinct kinds log graph) end → IsAtPlaces kinds log end numbers
  start-placed end e = record {
    all = all-end kinds log graph numbers s.shares typed-start hold-start end.traces e.splits e.refined e.merges e.refines e.coarsens;
    few = few-end kinds log graph numbers s.shares typed-start hold-start end.traces e.splits e.refined e.merges e.refines e.coarsens s.within.few_events;
    placed = placed-whole kinds log graph numbers s.shares typed-start hold-start end e;
  }
