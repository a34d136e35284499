-- What is mined of a log holds of every word of its first graph.
use Rattle.std.proofs.Common.{◌≡◌, ℕ, true, List, [], ◌∷◌, map, filter, subst, sym, inl, inr}
use Rattle.std.proofs.lemmas.Bool.{cases_Bool, cond-true, cond-false, and_parts}
use Rattle.std.specs.List.{AllByRecursion, list_all}
use Rattle.invariants.specs.declared.Invariant.{Invariant}
use Rattle.invariants.specs.declared.Kinds.{Kinds}
use Rattle.invariants.specs.Candidates.{candidates_for}
use Rattle.invariants.specs.Holds.{Holds, holds}
use Rattle.invariants.specs.Mined.{mined_for, holds_of_all}
use Rattle.invariants.proofs.ByPlaces.{holds-Holds}
use Rattle.traces.specs.Words.{Log, Trace, word_of, words_of}
use Rattle.partition_model.specs.Assignments.{inner_words, with_ends}
use Rattle.partition_model.specs.Laws.{HoldAll}
use Rattle.partition_model.proofs.Runs.{words-typed}
use Rattle.partition_graph.specs.Parts.{start_of, inner_words_of}

words-hold : (inv : Invariant) (traces : List Trace) → list_all (holds inv) (map word_of traces) ≡ true → AllByRecursion (λ w. Holds inv (with_ends w)) (map (λ trace. trace.events) traces)
words-hold inv [] all = tt
words-hold inv (t ∷ traces) all =
    let parts = and_parts (holds inv (word_of t)) (list_all (holds inv) (map word_of traces)) all in
    ((holds-Holds inv (word_of t)).0 parts.0, words-hold inv traces parts.1)

filtered-hold : (traces : List Trace) (invs : List Invariant) → HoldAll (map (λ trace. trace.events) traces) (filter (holds_of_all (map word_of traces)) invs)
filtered-hold traces [] = tt
filtered-hold traces (inv ∷ invs) =
    elim (cases_Bool (holds_of_all (map word_of traces) inv)) [
      | inl t ↦ subst (HoldAll (map (λ trace. trace.events) traces)) (sym (cond-true _ _ _ t)) (words-hold inv traces t, filtered-hold traces invs)
      | inr f ↦ subst (HoldAll (map (λ trace. trace.events) traces)) (sym (cond-false _ _ _ f)) (filtered-hold traces invs)
    ]

-- what is mined of a log holds of every word of its first graph
pub mined-hold : (log : Log) (kinds : Kinds) (count : ℕ) → HoldAll (inner_words (start_of log).traces) (mined_for kinds count (words_of log))
mined-hold log kinds count =
    subst (λ (ws : List (List ℕ)). HoldAll ws (mined_for kinds count (words_of log))) (sym (words-typed (inner_words_of log)))
    (filtered-hold log.traces (candidates_for kinds count))
