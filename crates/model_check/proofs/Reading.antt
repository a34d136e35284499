-- What is read of a log, and how much is mined of it.
use Rattle.std.proofs.Common.{◌≡◌, ℕ, zero, suc, ◌*◌, ◌^◌, ◌<◌, ◌≤◌, List, [], ◌∷◌, length, map, slice_get, Some, refl, sym, ap, arith, count_by}
use Rattle.std.specs.Prelude.{IfSome}
use Rattle.std.proofs.lemmas.List.Sums.{length-filter, count_by-le-length}
use Rattle.limits.specs.declared.TheConstants.{MAX_TYPES}
use Rattle.invariants.specs.declared.Kinds.{Kinds}
use Rattle.invariants.specs.declared.Kinds.TheVariants.{Three, Four}
use Rattle.invariants.specs.Candidates.{candidates_for, candidate_total}
use Rattle.invariants.proofs.EachKinds.{length-total}
use Rattle.std.proofs.Math.Nat.{mul-le-mul_right}
use Rattle.invariants.specs.Mined.{mined_for, holds_of_all}
use Rattle.partition_model.specs.Assignments.{with_ends}
use Rattle.traces.specs.Words.{Log, Trace, words_of, word_of}
use Rattle.models.specs.Models.{mined_of, typed_words}

-- the word at the place of a trace has the events of this trace
pub word-at : (traces : List Trace) (t : ℕ) (numbers : List ℕ) → t < length traces → IfSome (slice_get traces t) (λ trace. numbers ≡ trace.events) → slice_get (map (λ (trace : Trace). trace.events) traces) t ≡ Some numbers
word-at [] t numbers l e = absurd (omega arith)
word-at (x ∷ xs) zero numbers l e = ap (λ (w : List ℕ). Some w) (sym e)
word-at (x ∷ xs) (suc t) numbers l e = word-at xs t numbers (omega arith) e

-- the words of traces are their events, put between the two ends
words-again : (traces : List Trace) → map word_of traces ≡ map with_ends (map (λ (trace : Trace). trace.events) traces)
words-again [] = refl
words-again (x ∷ xs) = ap (λ (ws : List (List ℕ)). word_of x ∷ ws) (words-again xs)

-- what is mined of the traces of a log is what is mined of its words
pub mined-again : (kinds : Kinds) (log : Log) → mined_for kinds (length log.types) (words_of log) ≡ mined_of (typed_words kinds log)
mined-again kinds log = ap (λ (ws : List (List ℕ)). mined_for kinds (length log.types) ws) (words-again log.traces)

-- for so many types there are so many candidates at most
total-few : (kinds : Kinds) (types : ℕ) → types ≤ MAX_TYPES → candidate_total kinds types < 2 ^ 32
total-few Three types few =
    let d : types * types ≤ MAX_TYPES * types = mul-le-mul_right types few in
    omega arith
total-few Four types few =
    let d : types * types ≤ MAX_TYPES * types = mul-le-mul_right types few in
    omega arith

-- no more are mined than there are candidates
pub mined-few : (kinds : Kinds) (types : ℕ) (words : List (List ℕ)) → types ≤ MAX_TYPES → length (mined_for kinds types words) < 2 ^ 32
mined-few kinds types words few =
    let a : length (mined_for kinds types words) ≡ count_by (holds_of_all words) (candidates_for kinds types) = length-filter (holds_of_all words) (candidates_for kinds types) in
    let b : count_by (holds_of_all words) (candidates_for kinds types) ≤ length (candidates_for kinds types) = count_by-le-length (holds_of_all words) (candidates_for kinds types) in
    omega (arith, length-total kinds types, total-few kinds types few)
