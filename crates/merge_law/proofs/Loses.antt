-- What a merge loses.
use Rattle.std.proofs.Common.{◌≡◌, ℕ, ◌≤◌, ◌<◌, ◌⊎◌, true, false, List, [], ◌∷◌, ◌++◌, map, sym, ◌∙◌, refl, ap, subst, inl, inr, arith}
use Rattle.std.proofs.lemmas.Bool.{cases_Bool}
use Rattle.invariants.specs.declared.Invariant.{Invariant}
use Rattle.invariants.specs.Holds.{Holds}
use Rattle.invariants.specs.Monitors.{step, run, is_bad}
use Rattle.invariants.proofs.Agree.{monitor_agrees}
use Rattle.partition_model.specs.Graphs.{Graph, Walk, word, Breaks, Merged}
use Rattle.partition_model.specs.Coarsening.{onto}
use Rattle.partition_model.proofs.Merging.{onto_is, onto_other}
use Rattle.merge_law.specs.Critical.{critical, Fore, Back, Clash}
use Rattle.merge_law.specs.Laws.{MergeLoses, MergeKeeps}
use Rattle.merge_law.proofs.Walks.{walk_join, run_join, bad_breaks, moved_run, moved_to, moved_from}
use Rattle.merge_law.proofs.Standing.{IsSetting, IsTurning, Ends, AreTwins, from-start, ends-bad}

-- of one pair of twins and another
which : (p q x w y z : ℕ) → AreTwins p q x w → AreTwins p q y z → (w ≡ z) ⊎ ((w ≡ y) × (x ≡ z))
which p q x w y z (inl a) (inl b) = inl (a.1 ∙ sym b.1)
which p q x w y z (inl a) (inr b) = inr (a.1 ∙ sym b.0, a.0 ∙ sym b.1)
which p q x w y z (inr a) (inl b) = inr (a.1 ∙ sym b.0, a.0 ∙ sym b.1)
which p q x w y z (inr a) (inr b) = inl (a.1 ∙ sym b.1)

-- the twin of z is met
abbrev pub IsMet : Graph → Invariant → ℕ → ℕ → ℕ → Type 0
IsMet g inv p q z = (y : ℕ) × AreTwins p q y z × Fore inv g y

-- that its twin is met goes over from one of the two to the other
pub met-turns : (g : Graph) (inv : Invariant) (p q : ℕ) → IsTurning g inv p q (IsMet g inv p q)
met-turns g inv p q =
    record {
      gives = λ x w tw f. (x, tw, f);
      turns = λ x w z tw m. elim (which p q x w m.0 z tw m.1) [
        | inl e ↦ inl (subst (λ (u : ℕ). IsMet g inv p q u) (sym e) m)
        | inr e ↦ inr (subst (λ (u : ℕ). Fore inv g u) (sym e.0) m.2)
      ];
    }

-- where one whose twin is met has the bad end ahead, the two clash
pub clash : (g : Graph) (inv : Invariant) (p q : ℕ) → Ends g inv (IsMet g inv p q) → Clash inv g p q
clash g inv p q e = case e.1.1
  where
    case : AreTwins p q e.1.0 e.0 → Clash inv g p q
    case (inl t) = inl (subst (λ (u : ℕ). Fore inv g u) t.0 e.1.2, subst (λ (u : ℕ). Back inv g u) t.1 e.2)
    case (inr t) = inr (subst (λ (u : ℕ). Fore inv g u) t.0 e.1.2, subst (λ (u : ℕ). Back inv g u) t.1 e.2)

bad-clash : (g : Graph) (inv : Invariant) (p q : ℕ) (xs : List ℕ) → IsSetting g inv p q → Walk (Merged g p q) 0 xs 1 → is_bad inv (run inv 0 (word g (0 ∷ xs))) ≡ true → Clash inv g p q
bad-clash g inv p q xs k w b =
    elim (from-start g inv p q (IsMet g inv p q) xs 1 k (met-turns g inv p q) w) [
      | inl c ↦ clash g inv p q c
      | inr i ↦ clash g inv p q (ends-bad g inv p q (IsMet g inv p q) (run inv 0 (word g (0 ∷ xs))) k b i)
    ]

broken-clash : (g : Graph) (inv : Invariant) (p q : ℕ) (path : List ℕ) → IsSetting g inv p q → Breaks (Merged g p q) inv path → Clash inv g p q
broken-clash g inv p q [] k b = absurd b.0
broken-clash g inv p q (x ∷ xs) k b =
    let w : Walk (Merged g p q) 0 xs 1 = subst (λ (y : ℕ). Walk (Merged g p q) y xs 1) b.0.0 b.0.1 in
    let n : Holds inv (word g (0 ∷ xs)) → ⊥ = λ h. b.1 (subst (λ (y : ℕ). Holds inv (word g (y ∷ xs))) (sym b.0.0) h) in
    elim (cases_Bool (is_bad inv (run inv 0 (word g (0 ∷ xs))))) [
      | inl t ↦ bad-clash g inv p q xs k w t
      | inr f ↦ absurd (n ((monitor_agrees inv (word g (0 ∷ xs))).0 f))
    ]

-- and where they clash, a path breaks it
crossing : (g : Graph) (inv : Invariant) (p q y z : ℕ) → 2 ≤ p → p < q → g.typ p ≡ g.typ q → onto p q y ≡ onto p q z → Fore inv g y → Back inv g z
    → (path : List ℕ) × Breaks (Merged g p q) inv path
crossing g inv p q y z l m t e f b =
    let v : Walk (Merged g p q) 0 (map (onto p q) f.0) (onto p q z) = subst (λ (u : ℕ). Walk (Merged g p q) 0 (map (onto p q) f.0) u) e (moved_from g p q y f.0 l m t f.1) in
    let w : Walk (Merged g p q) (onto p q z) (map (onto p q) b.0) 1 = moved_to g p q z b.0 l m t b.1 in
    let r : run inv 0 (word g (0 ∷ map (onto p q) f.0)) ≡ critical inv = moved_run g inv p q (step inv 0 (g.typ 0)) f.0 t ∙ f.2 in
    let j : run inv 0 (word g (0 ∷ (map (onto p q) f.0 ++ map (onto p q) b.0))) ≡ run inv (run inv 0 (word g (0 ∷ map (onto p q) f.0))) (word g (map (onto p q) b.0)) =
    run_join inv g 0 (0 ∷ map (onto p q) f.0) (map (onto p q) b.0) in
    let c : run inv 0 (word g (0 ∷ (map (onto p q) f.0 ++ map (onto p q) b.0))) ≡ run inv (critical inv) (word g b.0) =
    j ∙ ap (λ (s : ℕ). run inv s (word g (map (onto p q) b.0))) r ∙ moved_run g inv p q (critical inv) b.0 t in (
      0 ∷ (map (onto p q) f.0 ++ map (onto p q) b.0),
      bad_breaks (Merged g p q) inv (map (onto p q) f.0 ++ map (onto p q) b.0)
          (walk_join (Merged g p q) 0 (map (onto p q) f.0) (onto p q z) (map (onto p q) b.0) 1 v w)
          (ap (is_bad inv) c ∙ b.2),
    )

-- the two have one image in the merged graph
pub one-image : (p q : ℕ) → p < q → onto p q p ≡ onto p q q
one-image p q m = onto_other p q p (λ e. absurd (omega arith)) ∙ sym (onto_is p q q refl)

-- a merge loses an invariant exactly where the two clash
pub merge_loses : MergeLoses
merge_loses g inv p q l m t a b s = (
  λ o. broken-clash g inv p q o.0 (record { low = l; order = m; types = t; one = a; other = b; satisfied = s }) o.1,
  λ c. elim c [
    | inl h ↦ crossing g inv p q p q l m t (one-image p q m) h.0 h.1
    | inr h ↦ crossing g inv p q q p l m t (sym (one-image p q m)) h.0 h.1
  ],
)

-- a merge keeps an invariant exactly where the two do not clash
pub merge_keeps : MergeKeeps
merge_keeps g inv p q l m t a b s = (
  λ k c. let o : (path : List ℕ) × Breaks (Merged g p q) inv path = (merge_loses g inv p q l m t a b s).1 c in o.1.1 (k o.0 o.1.0),
  λ n path i. elim (cases_Bool (is_bad inv (run inv 0 (word g path)))) [
    | inl f ↦ absurd (n ((merge_loses g inv p q l m t a b s).0 (
      path,
      (
        i,
        λ h.
            let z : is_bad inv (run inv 0 (word g path)) ≡ false = (monitor_agrees inv (word g path)).1 h in
            let y : true ≡ false = sym f ∙ z in
            cc,
      ),
    )))
    | inr f ↦ (monitor_agrees inv (word g path)).0 f
  ],
)
