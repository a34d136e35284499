-- What is mined of a log, and what stands where a workbench is opened.
use Rattle.std.proofs.Common.{◌≡◌, ℕ, ◌*◌, ◌≤◌, List, [], ◌∷◌, map, length, slice_get, Some, count_by, sym, ◌∙◌, refl, ap, subst, inl, inr, arith}
use Rattle.std.proofs.lemmas.List.Sums.{length-filter, count_by-le-length}
use Rattle.std.proofs.Math.Nat.{mul-le-mul_right}
use Rattle.limits.specs.declared.TheConstants.{LAST_TYPE, MAX_INVARIANTS, MAX_PAIRS, MAX_PATH_NUMBERS, MAX_STEPS, MAX_TYPES}
use Rattle.invariants.specs.declared.Invariant.{Invariant}
use Rattle.invariants.specs.declared.Kinds.{Kinds}
use Rattle.invariants.specs.declared.Kinds.TheVariants.{Three, Four}
use Rattle.invariants.specs.Candidates.{candidates_for, candidate_total}
use Rattle.invariants.specs.Mined.{mined_for, holds_of_all, IsListed}
use Rattle.invariants.proofs.EachKinds.{length-total}
use Rattle.invariants.proofs.Members.{Contains-from_place, candidates_tell, mined_tells}
use Rattle.cell_pool.specs.Numbers.{Numbers}
use Rattle.cell_pool.specs.RunLists.{RunLists}
use Rattle.traces.specs.Words.{Log, Trace, word_of, words_of}
use Rattle.partition_model.specs.Assignments.{events, with_ends}
use Rattle.partition_model.specs.Laws.{HoldAll}
use Rattle.partition_model.proofs.Runs.{words-typed}
use Rattle.models.specs.Limits.{IsWithinLimits}
use Rattle.models.specs.Models.{mined_of, typed_words}
use Rattle.partition_graph.specs.Parts.{Parts, inner_words_of, start_of}
use Rattle.partition_graph.specs.Spread.{SharesWords}
use Rattle.labelling.specs.Labelled.{Labelling}
use Rattle.splitter.specs.Refining.{IsOpened}
use Rattle.splitter.proofs.Mining.{mined-hold}
use Rattle.infer_core.specs.Workbenches.{IsAtStart}
use Rattle.infer_core.proofs.Distinct.{hold-few, opened-few}

-- the words of a log, put between their ends
words-again : (traces : List Trace) → map word_of traces ≡ map with_ends (map (λ (trace : Trace). trace.events) traces)
words-again [] = refl
words-again (t ∷ traces) = ap (λ (ws : List (List ℕ)). word_of t ∷ ws) (words-again traces)

-- what is mined of a log is what is mined of its words between their ends
pub mined-again : (kinds : Kinds) (log : Log) → mined_for kinds (length log.types) (words_of log) ≡ mined_of (typed_words kinds log)
mined-again kinds log = ap (λ (ws : List (List ℕ)). mined_for kinds (length log.types) ws) (words-again log.traces)

-- of either kinds there are few candidates
total-few : (kinds : Kinds) (types : ℕ) → types ≤ MAX_TYPES → candidate_total kinds types ≤ MAX_INVARIANTS
total-few Three types few = let d : types * types ≤ MAX_TYPES * types = mul-le-mul_right types few in omega arith
total-few Four types few = let d : types * types ≤ MAX_TYPES * types = mul-le-mul_right types few in omega arith

-- no more are mined than there are candidates
pub mined-few : (kinds : Kinds) (types : ℕ) (words : List (List ℕ)) → types ≤ MAX_TYPES → length (mined_for kinds types words) ≤ MAX_INVARIANTS
mined-few kinds types words few =
    let a : length (mined_for kinds types words) ≡ count_by (holds_of_all words) (candidates_for kinds types) = length-filter (holds_of_all words) (candidates_for kinds types) in
    let b : count_by (holds_of_all words) (candidates_for kinds types) ≤ length (candidates_for kinds types) = count_by-le-length (holds_of_all words) (candidates_for kinds types) in
    let c : length (candidates_for kinds types) ≡ candidate_total kinds types = length-total kinds types in
    let d : candidate_total kinds types ≤ MAX_INVARIANTS = total-few kinds types few in
    omega (arith, a, b, c, d)

-- and each names types of the log, or INITIAL
pub mined-named : (kinds : Kinds) (types : ℕ) (words : List (List ℕ)) → types ≤ MAX_TYPES → (k : ℕ) (inv : Invariant) → slice_get (mined_for kinds types words) k ≡ Some inv
    → (inv.a ≤ LAST_TYPE) × (inv.b ≤ LAST_TYPE)
mined-named kinds types words few k inv at =
    let l : IsListed kinds types words inv = (mined_tells kinds types words inv).0 (Contains-from_place (mined_for kinds types words) k inv at) in
    elim ((candidates_tell kinds types inv).0 l.candidate) [
      | inl f ↦ (omega (arith, f.a), omega (arith, f.b_high))
      | inr p ↦ (omega (arith, p.a_high), omega (arith, p.b_high))
    ]

-- all stands ready
pub at-start : (kinds : Kinds) (log : Log) (invs : List Invariant) (graph : Parts) (numbers : List ℕ) (stitcher : ℕ) (planes : Labelling) (spans : Numbers) (run : RunLists)
    → IsOpened (start_of log) → IsWithinLimits (typed_words kinds log) → SharesWords log graph numbers → invs ≡ mined_for kinds (length log.types) (words_of log)
    → stitcher ≡ length (events graph.traces) → planes.invs ≡ invs → spans ≡ record { numbers = []; room = MAX_PATH_NUMBERS }
    → run ≡ record { splits = []; merges = []; blocks = []; split_room = MAX_STEPS; merge_room = MAX_STEPS; block_room = MAX_PAIRS }
    → IsAtStart kinds log invs graph numbers stitcher planes spans run
at-start kinds log invs graph numbers stitcher planes spans run opened within shares i made listed s r =
    let n : length invs ≡ length (mined_for kinds (length log.types) (words_of log)) = ap (λ (xs : List Invariant). length xs) i in
    let l : length (mined_for kinds (length log.types) (words_of log)) ≤ MAX_INVARIANTS = mined-few kinds (length log.types) (words_of log) within.types.few in
    let all : HoldAll (inner_words_of log) (mined_for kinds (length log.types) (words_of log)) =
    subst (λ (ws : List (List ℕ)). HoldAll ws (mined_for kinds (length log.types) (words_of log))) (words-typed (inner_words_of log)) (mined-hold log kinds (length log.types)) in
    record {
      mined = i ∙ mined-again kinds log;
      within = within;
      shares = shares;
      ready = record {
        few = omega arith;
        opened = opened-few kinds log graph numbers shares opened;
        hold = hold-few kinds log graph numbers shares invs (subst (λ (xs : List Invariant). HoldAll (inner_words_of log) xs) (sym i) all);
        made = made;
        listed = listed;
        empty = record {
          splits = ap (λ (x : RunLists). x.splits) r;
          merges = ap (λ (x : RunLists). x.merges) r;
          blocks = ap (λ (x : RunLists). x.blocks) r;
          numbers = ap (λ (x : Numbers). x.numbers) s;
        };
        room = record {
          splits = omega (arith, ap (λ (x : RunLists). x.split_room) r);
          numbers = omega (arith, ap (λ (x : Numbers). x.room) s);
        };
        numbers = ap (λ (x : Numbers). x.room) s;
        merges = omega (arith, ap (λ (x : RunLists). x.merge_room) r);
        blocks = omega (arith, ap (λ (x : RunLists). x.block_room) r);
      };
    }
