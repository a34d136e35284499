-- The numbers of the words of a log.
use Rattle.std.proofs.Common.{◌≡◌, ℕ, ◌<◌, List, [], length, slice_index_or, get_or, sym, ◌∙◌, ap, arith}
use Rattle.std.proofs.lemmas.List.{get_or-map, length-map}
use Rattle.traces.specs.Words.{Log, Trace}
use Rattle.count_miner.specs.Distinct.{NumberWords}
use Rattle.partition_model.specs.Assignments.{Assignment, Event, inner_words, types_of}
use Rattle.partition_model.proofs.Runs.{words-typed}
use Rattle.partition_graph.specs.Parts.{Parts, inner_words_of}
use Rattle.partition_graph.specs.Spread.{spread, SharesWords}

-- the words of the traces with these numbers are those of the log
words-again : (log : Log) (graph : Parts) (numbers : List ℕ) → SharesWords log graph numbers → inner_words (spread numbers graph.traces) ≡ inner_words_of log
words-again log graph numbers s = ap (λ (h : Assignment). inner_words h) s.spreads ∙ words-typed (inner_words_of log)

-- each trace of the log has a number
pub numbers-long : (log : Log) (graph : Parts) (numbers : List ℕ) → SharesWords log graph numbers → length numbers ≡ length log.traces
numbers-long log graph numbers s =
    let a : length (inner_words (spread numbers graph.traces)) ≡ length (spread numbers graph.traces) = length-map (spread numbers graph.traces) (λ (t : List Event). types_of t) in
    let b : length (spread numbers graph.traces) ≡ length numbers = length-map numbers (λ (k : ℕ). slice_index_or graph.traces k []) in
    let c : length (inner_words_of log) ≡ length log.traces = length-map log.traces (λ (t : Trace). t.events) in
    omega (arith, a, b, c, ap (λ (ws : List (List ℕ)). length ws) (words-again log graph numbers s))

-- the word of a trace is that of its number
word-of : (h : Assignment) (numbers : List ℕ) (s : ℕ) → s < length numbers → get_or (inner_words (spread numbers h)) s [] ≡ types_of (slice_index_or h (get_or numbers s 0) [])
word-of h numbers s inside =
    let long : s < length (spread numbers h) = omega (arith, inside, length-map numbers (λ (k : ℕ). slice_index_or h k [])) in
    get_or-map (λ (t : List Event). types_of t) (spread numbers h) s [] [] long
    ∙ ap (λ (t : List Event). types_of t) (get_or-map (λ (k : ℕ). slice_index_or h k []) numbers s 0 [] inside)

-- traces with the same number have the same word
pub numbers-tell : (log : Log) (graph : Parts) (numbers : List ℕ) → SharesWords log graph numbers → NumberWords numbers log.traces
numbers-tell log graph numbers shares = λ s t in_s in_t same.
    let h : Assignment = graph.traces in
    let is : inner_words (spread numbers h) ≡ inner_words_of log = words-again log graph numbers shares in
    let long : length numbers ≡ length log.traces = numbers-long log graph numbers shares in
    ap (λ (ws : List (List ℕ)). get_or ws s []) (sym is)
    ∙ (word-of h numbers s (omega (arith, in_s, long))
    ∙ (ap (λ (k : ℕ). types_of (slice_index_or h k [])) same
    ∙ (sym (word-of h numbers t (omega (arith, in_t, long))) ∙ ap (λ (ws : List (List ℕ)). get_or ws t []) is)))
