-- What refinement and coarsening keep over whole runs.
use Rattle.std.proofs.Common.{◌≡◌, ℕ, suc, ◌+◌, ◌≤◌, List, [], ◌∷◌, map, slice_get, Some, sym, ◌∙◌, refl, ap, ap₂, subst, arith}
use Rattle.std.specs.List.{AllByRecursion}
use Rattle.invariants.specs.declared.Invariant.{Invariant}
use Rattle.invariants.specs.declared.records.Split.{Split}
use Rattle.partition_model.specs.Graphs.{IsPath, word, Accepts, Satisfies}
use Rattle.partition_model.specs.Assignments.{Event, Assignment, G, IsTyped, type_of, types_of, word_of, id_list, inner_words, with_ends, by_type, renamed, renamed_event}
use Rattle.partition_model.specs.Refinement.{Refines, SatisfiesAll, after_split}
use Rattle.partition_model.specs.Coarsening.{merge, onto, NoMerge}
use Rattle.partition_model.specs.Laws.{IsRun, HoldAll, Keeps, RefinementKeeps, CoarseningKeeps}
use Rattle.partition_model.proofs.Naming.{typed_from}
use Rattle.partition_model.proofs.Merging.{merge_typed}
use Rattle.partition_model.proofs.Following.{accepts_traces}
use Rattle.partition_model.proofs.Runs.{broken, next-run, start-run}

-- another naming of ids keeps the types of a trace
types-renamed : (f : ℕ → ℕ) (t : List Event) → types_of (map (renamed_event f) t) ≡ types_of t
types-renamed f [] = refl
types-renamed f (e ∷ t) = ap (λ (z : List ℕ). e.typ ∷ z) (types-renamed f t)

-- and so it keeps the words
pub words-renamed : (f : ℕ → ℕ) (h : Assignment) → inner_words (renamed f h) ≡ inner_words h
words-renamed f [] = refl
words-renamed f (t ∷ h) = ap₂ (λ (x : List ℕ) (z : List (List ℕ)). x ∷ z) (types-renamed f t) (words-renamed f h)

-- a path for each trace is one for each word
words-accepted : (k h : Assignment) → AllByRecursion (λ trace. IsPath (G k) (id_list trace) × (word (G k) (id_list trace) ≡ word_of trace)) h → AllByRecursion (λ w. Accepts (G k) (with_ends w)) (inner_words h)
words-accepted k [] a = tt
words-accepted k (t ∷ h) a = ((id_list t, a.0.0, a.0.1), words-accepted k h a.1)

-- an assignment of the words, with one type for each id and each invariant satisfied, keeps all
pub keeps : (invs : List Invariant) (words : List (List ℕ)) (h : Assignment) → inner_words h ≡ words → IsTyped h → SatisfiesAll (G h) invs → Keeps invs words h
keeps invs words h e t s =
    record {
      words_are = e;
      typed = t;
      accepts = subst (λ (ws : List (List ℕ)). AllByRecursion (λ w. Accepts (G h) (with_ends w)) ws) e (words-accepted h h (accepts_traces h t));
      satisfies = s;
    }

-- a run of refinement from any state keeps it
refined-keeps : (invs : List Invariant) (words : List (List ℕ)) (splits : List Split) (h : Assignment) (n : ℕ) (end : Assignment) → IsRun words h n → 2 ≤ n → HoldAll words invs
    → Refines invs h n splits end → Keeps invs words end
refined-keeps invs words [] h n end r l a w =
    subst (λ (k : Assignment). Keeps invs words k) (sym w.1) (keeps invs words h r.words_are r.typed w.0)
refined-keeps invs words (s ∷ ss) h n end r l a w =
    let b : (inv : Invariant) × (slice_get invs s.inv ≡ Some inv) × (Satisfies (G h) inv → ⊥) = broken (G h) invs s.inv w.0.first in
    let r1 : IsRun words (after_split n s h) (n + 1) = next-run words invs h n s b.0 r l a b.1 (w.0.least b.0 b.1) w.0.place in
    let e : n + 1 ≡ suc n = omega arith in
    let r2 : IsRun words (after_split n s h) (suc n) = subst (λ (m : ℕ). IsRun words (after_split n s h) m) e r1 in
    refined-keeps invs words ss (after_split n s h) (suc n) end r2 (omega arith) a w.1

-- it is kept where refinement ends
pub refinement_keeps : RefinementKeeps
refinement_keeps invs words n splits end a hold w = refined-keeps invs words splits (by_type words) n end (start-run words n a) a.two hold w

-- it is kept where coarsening ends, after which no merge keeps every invariant
pub coarsening_keeps : CoarseningKeeps
coarsening_keeps invs words h [] end k w = (
  subst (λ (x : Assignment). Keeps invs words x) (sym w.1) k,
  subst (λ (x : Assignment). NoMerge invs x) (sym w.1) w.0,
)
coarsening_keeps invs words h (m ∷ ms) end k w =
    let t : IsTyped (merge m.p m.q h) = typed_from (λ x. type_of h x) (merge m.p m.q h) (merge_typed h m.p m.q k.typed w.0.pair) in
    coarsening_keeps invs words (merge m.p m.q h) ms end
    (keeps invs words (merge m.p m.q h) (words-renamed (onto m.p m.q) h ∙ k.words_are) t w.0.keeps) w.1
