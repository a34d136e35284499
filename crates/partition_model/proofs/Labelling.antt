-- Inductive labellings.
use Rattle.std.proofs.Common.{◌≡◌, ℕ, true, List, [], ◌∷◌, ◌++◌, sym, ◌∙◌, refl, ap, subst}
use Rattle.invariants.specs.declared.Invariant.{Invariant}
use Rattle.invariants.specs.Holds.{Holds}
use Rattle.invariants.specs.Monitors.{step, run}
use Rattle.invariants.proofs.Agree.{monitor_agrees}
use Rattle.partition_model.specs.Graphs.{Graph, Walk, word}
use Rattle.partition_model.specs.Labels.{IsInductive}
use Rattle.partition_model.specs.Laws.{InductiveSatisfies, ReachedIsInductive, ReachedSatisfies}

-- along a walk, the label of its end has the state after its word
along : (inv : Invariant) (g : Graph) (labels : ℕ → ℕ → Type 0) → IsInductive inv g labels → (p : ℕ) (xs : List ℕ) (q s : ℕ) → Walk g p xs q → labels p s → labels q (run inv s (word g xs))
along inv g labels i p [] q s w l = subst (λ (x : ℕ). labels x s) w l
along inv g labels i p (r ∷ rs) q s w l = along inv g labels i r rs q (step inv s (g.typ r)) w.1 (i.along p r s w.0 l)

-- where a labelling is inductive, no path breaks the invariant
pub inductive_satisfies : InductiveSatisfies
inductive_satisfies inv g labels i [] h = absurd h
inductive_satisfies inv g labels i (x ∷ xs) h =
    let L : ℕ → ℕ → Type 0 = λ p s. labels p s ≡ true in
    let st : L x (step inv 0 (g.typ x)) = subst (λ (y : ℕ). labels y (step inv 0 (g.typ y)) ≡ true) (sym h.0) i.start in
    let e : labels 1 (run inv (step inv 0 (g.typ x)) (word g xs)) ≡ true = along inv g (λ p s. labels p s ≡ true) i x xs 1 (step inv 0 (g.typ x)) h.1 st in
    (monitor_agrees inv (word g (x ∷ xs))).0 (i.end (run inv 0 (word g (x ∷ xs))) e)

-- a walk goes on along an edge
pub walk_more : (g : Graph) (p : ℕ) (xs : List ℕ) (q r : ℕ) → Walk g p xs q → g.edge q r ≡ true → Walk g p (xs ++ r ∷ []) r
walk_more g p [] q r w e = (subst (λ (x : ℕ). g.edge x r ≡ true) (sym w) e, refl)
walk_more g p (x ∷ xs) q r w e = (w.0, walk_more g x xs q r w.1 e)

-- and the run along it goes on by a step
pub run_more : (inv : Invariant) (g : Graph) (s : ℕ) (xs : List ℕ) (r : ℕ) → run inv s (word g (xs ++ r ∷ [])) ≡ step inv (run inv s (word g xs)) (g.typ r)
run_more inv g s [] r = refl
run_more inv g s (x ∷ xs) r = run_more inv g (step inv s (g.typ x)) xs r

-- where no path breaks the invariant, the reached states are inductive
pub reached_inductive : ReachedIsInductive
reached_inductive inv g sat =
    record {
      start = ([], refl, refl);
      along = λ p q s e l. (l.0 ++ q ∷ [], walk_more g 0 l.0 p q l.1 e, run_more inv g 0 (0 ∷ l.0) q ∙ ap (λ (x : ℕ). step inv x (g.typ q)) l.2);
      end = λ s l. rw (← l.2) ((monitor_agrees inv (word g (0 ∷ l.0))).1 (sat (0 ∷ l.0) (refl, l.1)));
    }

-- and where the reached states are inductive, no path breaks the invariant
pub reached_satisfies : ReachedSatisfies
reached_satisfies inv g i [] h = absurd h
reached_satisfies inv g i (x ∷ xs) h =
    let w : Walk g 0 xs 1 = subst (λ (y : ℕ). Walk g y xs 1) h.0 h.1 in
    let k : Holds inv (word g (0 ∷ xs)) = (monitor_agrees inv (word g (0 ∷ xs))).0 (i.end (run inv 0 (word g (0 ∷ xs))) (xs, w, refl)) in
    subst (λ (y : ℕ). Holds inv (word g (y ∷ xs))) (sym h.0) k
