-- What is met and what is ahead, by rules along edges.
use Rattle.std.proofs.Common.{◌≡◌, ℕ, ◌≤◌, ◌<◌, ◌⊎◌, ◌↔◌, Bool, true, List, [], ◌∷◌, ◌++◌, sym, ◌∙◌, refl, ap, subst, inl, inr, arith, eq-eqb}
use Rattle.std.specs.List.{AllByRecursion}
use Rattle.invariants.specs.declared.Invariant.{Invariant}
use Rattle.invariants.specs.Monitors.{step, run, is_bad, bad_of}
use Rattle.invariants.proofs.Agree.{step-le}
use Rattle.partition_model.specs.Graphs.{Graph, Walk, word, Satisfies, Merged}
use Rattle.partition_model.specs.Assignments.{Assignment, G, IsTyped}
use Rattle.partition_model.specs.Coarsening.{merge, IsPair}
use Rattle.partition_model.specs.Refinement.{SatisfiesAll}
use Rattle.partition_model.proofs.Labelling.{walk_more, run_more}
use Rattle.partition_model.proofs.Paths.{satisfies_maps}
use Rattle.partition_model.proofs.Merging.{merge_to_merged, merged_to_merge}
use Rattle.merge_law.specs.Critical.{critical, calm_of, Fore, Back, Clash, IsOnPath, Enters, Stays, Falls}
use Rattle.merge_law.specs.Laws.{PairKeeps, ForeFollows, ForeIsLeast, BackFollows, BackIsLeast}
use Rattle.merge_law.proofs.Danger.{IsNearer, IsLost, nearer-self, nearer-step, nearer-run, nearer-calm, nearer-critical, nearer-bad, three, run-le, critical-le, enters, lost-is, is-lost, lost-run, bad-critical}
use Rattle.merge_law.proofs.Walks.{walk_join, run_join, none_bad, all_on_paths}
use Rattle.merge_law.proofs.Standing.{lost-end}
use Rattle.merge_law.proofs.Loses.{merge_keeps}

-- a merge of two partitions keeps an invariant exactly where they do not clash
one-keeps : (h : Assignment) (p q : ℕ) (inv : Invariant) → IsTyped h → IsPair (G h) p q → Satisfies (G h) inv → Satisfies (G (merge p q h)) inv ↔ (Clash inv (G h) p q → ⊥)
one-keeps h p q inv t i s =
    let l : 2 ≤ p = i.low in
    let m : p < q = i.order in
    let k : Satisfies (Merged (G h) p q) inv ↔ (Clash inv (G h) p q → ⊥) =
    merge_keeps (G h) inv p q l m i.types (all_on_paths h p t l i.has_p) (all_on_paths h q t (omega arith) i.has_q) s in (
      λ a. k.0 (satisfies_maps (λ x. x) (Merged (G h) p q) (G (merge p q h)) (merged_to_merge h p q t i) inv a),
      λ c. satisfies_maps (λ x. x) (G (merge p q h)) (Merged (G h) p q) (merge_to_merged h p q t i) inv (k.1 c),
    )

-- a merge of two partitions keeps every invariant of a list exactly where they clash in none
pub pair_keeps : PairKeeps
pair_keeps h p q [] t i s = (λ a. tt, λ c. tt)
pair_keeps h p q (inv ∷ invs) t i s =
    let o : Satisfies (G (merge p q h)) inv ↔ (Clash inv (G h) p q → ⊥) = one-keeps h p q inv t i s.0 in
    let r : SatisfiesAll (G (merge p q h)) invs ↔ AllByRecursion (λ v. Clash v (G h) p q → ⊥) invs = pair_keeps h p q invs t i s.1 in
    (λ a. (o.0 a.0, r.0 a.1), λ c. (o.1 c.0, r.1 c.1))

-- an id is met where the step to it is at least as near as the critical state
comes : (g : Graph) (inv : Invariant) (u v : ℕ) (xs : List ℕ) → Satisfies g inv → Walk g 0 xs u → IsOnPath g v → g.edge u v ≡ true
    → IsNearer inv.kind (critical inv) (step inv (run inv 0 (word g (0 ∷ xs))) (g.typ v)) → Fore inv g v
comes g inv u v xs s w o e n =
    let r : run inv 0 (word g (0 ∷ (xs ++ v ∷ []))) ≡ step inv (run inv 0 (word g (0 ∷ xs))) (g.typ v) = run_more inv g 0 (0 ∷ xs) v in
    let m : IsNearer inv.kind (critical inv) (run inv 0 (word g (0 ∷ (xs ++ v ∷ [])))) = subst (λ (t : ℕ). IsNearer inv.kind (critical inv) t) (sym r) n in
    let y : Walk g 0 (xs ++ v ∷ []) v = walk_more g 0 xs u v w e in
    elim (nearer-critical inv.kind (run inv 0 (word g (0 ∷ (xs ++ v ∷ [])))) (run-le inv.kind inv.a inv.b 0 (word g (0 ∷ (xs ++ v ∷ []))) (omega arith)) m) [
      | inl d ↦ (xs ++ v ∷ [], y, d)
      | inr d ↦ absurd (none_bad g inv ((xs ++ v ∷ []) ++ o.1) s (walk_join g 0 (xs ++ v ∷ []) v o.1 1 y o.3) (lost-end g inv 0 (0 ∷ (xs ++ v ∷ [])) o.1 d))
    ]

-- an edge leads to an id that is met, where the step to it enters, or stays from one that is met
fore-along : (g : Graph) (inv : Invariant) (u v : ℕ) → Satisfies g inv → IsOnPath g u → IsOnPath g v → g.edge u v ≡ true
    → Enters inv (g.typ v) ⊎ (Stays inv (g.typ v) × Fore inv g u) → Fore inv g v
fore-along g inv u v s a b e (inl c) =
    let n : IsNearer inv.kind (step inv (calm_of inv.kind) (g.typ v)) (step inv (run inv 0 (word g (0 ∷ a.0))) (g.typ v)) =
    nearer-step inv.kind inv.a inv.b (g.typ v) (calm_of inv.kind) (run inv 0 (word g (0 ∷ a.0))) (nearer-calm inv.kind (run inv 0 (word g (0 ∷ a.0)))) in
    comes g inv u v a.0 s a.2 b e (subst (λ (t : ℕ). IsNearer inv.kind t (step inv (run inv 0 (word g (0 ∷ a.0))) (g.typ v))) c n)
fore-along g inv u v s a b e (inr c) =
    (c.1.0 ++ v ∷ [], walk_more g 0 c.1.0 u v c.1.1 e, run_more inv g 0 (0 ∷ c.1.0) v ∙ ap (λ (t : ℕ). step inv t (g.typ v)) c.1.2 ∙ c.0)

-- what is met follows by rules along edges
pub fore_follows : ForeFollows
fore_follows g inv s = (λ e. ([], refl, e), λ u v a b e c. fore-along g inv u v s a b e c)

abbrev ForeClosed : Graph → Invariant → (ℕ → Bool) → Type 0
ForeClosed g inv found = (u v : ℕ) → g.edge u v ≡ true → Enters inv (g.typ v) ⊎ (Stays inv (g.typ v) × (found u ≡ true)) → found v ≡ true

-- what is closed under these rules has the end of each walk that ends in the critical state
closed-along : (g : Graph) (inv : Invariant) (found : ℕ → Bool) → ForeClosed g inv found → (u : ℕ) (xs : List ℕ) (p s : ℕ) → s ≤ 2 → (s ≡ critical inv → found u ≡ true)
    → Walk g u xs p → run inv s (word g xs) ≡ critical inv → found p ≡ true
closed-along g inv found k u [] p s l f w e = subst (λ (x : ℕ). found x ≡ true) w (f e)
closed-along g inv found k u (v ∷ xs) p s l f w e =
    closed-along g inv found k v xs p (step inv s (g.typ v)) (step-le inv.kind inv.a inv.b s (g.typ v) l)
    (λ c. elim (enters inv.kind inv.a inv.b s (g.typ v) l c) [
      | inl d ↦ k u v w.0 (inr (ap (λ (t : ℕ). step inv t (g.typ v)) (sym d) ∙ c, f d))
      | inr d ↦ k u v w.0 (inl d)
    ])
    w.1 e

-- whatever is closed under these rules has all that is met
pub fore_is_least : ForeIsLeast
fore_is_least g inv found z k p f =
    closed-along g inv found k 0 f.0 p (step inv 0 (g.typ 0)) (step-le inv.kind inv.a inv.b 0 (g.typ 0) (omega arith)) z f.1 f.2

-- the bad end is ahead of an id where the step along an edge falls, or stays and it is ahead there
back-along : (g : Graph) (inv : Invariant) (u v : ℕ) → IsOnPath g v → g.edge u v ≡ true → Falls inv (g.typ v) ⊎ (Stays inv (g.typ v) × Back inv g v) → Back inv g u
back-along g inv u v o e (inl c) =
    let l : IsLost inv.kind (step inv (critical inv) (g.typ v)) = is-lost inv.kind (step inv (critical inv) (g.typ v)) c.0 c.1 in
    let d : run inv (step inv (critical inv) (g.typ v)) (word g o.1) ≡ bad_of inv.kind = lost-run inv.kind inv.a inv.b (step inv (critical inv) (g.typ v)) (word g o.1) l in
    (v ∷ o.1, (e, o.3), eq-eqb (run inv (step inv (critical inv) (g.typ v)) (word g o.1)) (bad_of inv.kind) d)
back-along g inv u v o e (inr c) = (v ∷ c.1.0, (e, c.1.1), ap (λ (t : ℕ). is_bad inv (run inv t (word g c.1.0))) c.0 ∙ c.1.2)

-- where the bad end is ahead follows by rules against edges
pub back_follows : BackFollows
back_follows g inv = (
  λ e. ([], refl, eq-eqb (critical inv) (bad_of inv.kind) e),
  λ u v o e c. back-along g inv u v o e c,
)

abbrev BackClosed : Graph → Invariant → (ℕ → Bool) → Type 0
BackClosed g inv found = (u v : ℕ) → g.edge u v ≡ true → Falls inv (g.typ v) ⊎ (Stays inv (g.typ v) × (found v ≡ true)) → found u ≡ true

closed-back : (g : Graph) (inv : Invariant) (found : ℕ → Bool) → Satisfies g inv → (critical inv ≡ bad_of inv.kind → found 1 ≡ true) → BackClosed g inv found
    → (before : List ℕ) (u : ℕ) (xs : List ℕ) → Walk g 0 before u → Walk g u xs 1 → is_bad inv (run inv (critical inv) (word g xs)) ≡ true → found u ≡ true
closed-back g inv found s z k before u [] y w b = subst (λ (x : ℕ). found x ≡ true) (sym w) (z (bad-critical inv.kind b))
closed-back g inv found s z k before u (v ∷ xs) y w b =
    let more : Walk g 0 (before ++ v ∷ []) v = walk_more g 0 before u v y w.0 in
    elim (three inv.kind (step inv (critical inv) (g.typ v)) (step-le inv.kind inv.a inv.b (critical inv) (g.typ v) (critical-le inv.kind))) [
      | inl f ↦
          let c : step inv (critical inv) (g.typ v) ≤ 2 = step-le inv.kind inv.a inv.b (critical inv) (g.typ v) (critical-le inv.kind) in
          let n : IsNearer inv.kind (step inv (critical inv) (g.typ v)) (run inv 0 (word g (0 ∷ (before ++ v ∷ [])))) =
          f (step inv (critical inv) (g.typ v)) (run inv 0 (word g (0 ∷ (before ++ v ∷ [])))) (nearer-self inv.kind (step inv (critical inv) (g.typ v))) c in
          let m : IsNearer inv.kind (run inv (step inv (critical inv) (g.typ v)) (word g xs)) (run inv (run inv 0 (word g (0 ∷ (before ++ v ∷ [])))) (word g xs)) =
          nearer-run inv.kind inv.a inv.b (step inv (critical inv) (g.typ v)) (run inv 0 (word g (0 ∷ (before ++ v ∷ [])))) (word g xs) n in
          let lim : run inv (run inv 0 (word g (0 ∷ (before ++ v ∷ [])))) (word g xs) ≤ 2 =
          run-le inv.kind inv.a inv.b (run inv 0 (word g (0 ∷ (before ++ v ∷ [])))) (word g xs) (run-le inv.kind inv.a inv.b 0 (word g (0 ∷ (before ++ v ∷ []))) (omega arith)) in
          let d : is_bad inv (run inv (run inv 0 (word g (0 ∷ (before ++ v ∷ [])))) (word g xs)) ≡ true =
          nearer-bad inv.kind (run inv (step inv (critical inv) (g.typ v)) (word g xs)) (run inv (run inv 0 (word g (0 ∷ (before ++ v ∷ [])))) (word g xs)) lim m b in
          absurd (none_bad g inv ((before ++ v ∷ []) ++ xs) s (walk_join g 0 (before ++ v ∷ []) v xs 1 more w.1)
          (ap (is_bad inv) (run_join inv g 0 (0 ∷ (before ++ v ∷ [])) xs) ∙ d))
      | inr o ↦ elim o [
        | inl e ↦
            let b1 : is_bad inv (run inv (critical inv) (word g xs)) ≡ true = subst (λ (t : ℕ). is_bad inv (run inv t (word g xs)) ≡ true) e b in
            k u v w.0 (inr (e, closed-back g inv found s z k (before ++ v ∷ []) v xs more w.1 b1))
        | inr d ↦ k u v w.0 (inl (lost-is inv.kind (step inv (critical inv) (g.typ v)) d))
      ]
    ]

-- whatever is closed under these rules has all ids on paths where the bad end is ahead
pub back_is_least : BackIsLeast
back_is_least g inv found s z k p o b = closed-back g inv found s z k o.0 p b.0 o.2 b.1 b.2
