-- What is met and what is ahead at the merged id.
use Rattle.std.proofs.Common.{◌≡◌, ℕ, ◌<◌, ◌⊎◌, [], ◌∷◌, ◌++◌, sym, ◌∙◌, refl, subst, inl, inr, arith}
use Rattle.std.proofs.lemmas.Bool.{cases_eq}
use Rattle.invariants.specs.declared.Invariant.{Invariant}
use Rattle.invariants.specs.Monitors.{run}
use Rattle.partition_model.specs.Graphs.{Graph, word, Merged}
use Rattle.partition_model.specs.Coarsening.{onto}
use Rattle.partition_model.proofs.Merging.{onto_is, onto_other, merged_keeps}
use Rattle.merge_law.specs.Critical.{critical, Fore, Back, Clash, IsOnPath}
use Rattle.merge_law.specs.Laws.{MergedIsUnion}
use Rattle.merge_law.proofs.Danger.{nearer-self, nearer-critical, run-le, critical-le}
use Rattle.merge_law.proofs.Walks.{walk_join, none_bad, merged_has_more}
use Rattle.merge_law.proofs.Standing.{IsSetting, IsTurning, Ends, AreTwins, StandsFor, Stands, from-start, walks, ends-bad, lost-end}
use Rattle.merge_law.proofs.Loses.{IsMet, met-turns, clash, merge_keeps}

-- the ids that stand for p
one-of : (p q x : ℕ) → onto p q x ≡ p → (x ≡ p) ⊎ (x ≡ q)
one-of p q x e =
    elim (cases_eq x q) [
      | inl a ↦ inr a
      | inr a ↦ inl (sym (onto_other p q x a) ∙ e)
    ]

either : (P : ℕ → Type 0) (p q x : ℕ) → (x ≡ p) ⊎ (x ≡ q) → P x → P p ⊎ P q
either P p q x (inl e) h = inl (subst P e h)
either P p q x (inr e) h = inr (subst P e h)

setting-path : (g : Graph) (inv : Invariant) (p q x : ℕ) → IsSetting g inv p q → (x ≡ p) ⊎ (x ≡ q) → IsOnPath g x
setting-path g inv p q x k (inl e) = subst (λ (u : ℕ). IsOnPath g u) (sym e) k.one
setting-path g inv p q x k (inr e) = subst (λ (u : ℕ). IsOnPath g u) (sym e) k.other

-- where the merged id is met
met : (g : Graph) (inv : Invariant) (p q : ℕ) → IsSetting g inv p q → (Clash inv g p q → ⊥) → Fore inv (Merged g p q) p → Fore inv g p ⊎ Fore inv g q
met g inv p q k none f =
    elim (from-start g inv p q (IsMet g inv p q) f.0 p k (met-turns g inv p q) f.1) [
      | inl c ↦ absurd (none (clash g inv p q c))
      | inr i ↦ of i.0 (one-of p q i.0 i.1) (subst (λ (s : ℕ). Stands g inv (IsMet g inv p q) i.0 s) f.2 i.2)
    ]
  where
    of : (x : ℕ) → (x ≡ p) ⊎ (x ≡ q) → Stands g inv (IsMet g inv p q) x (critical inv) → Fore inv g p ⊎ Fore inv g q
    of x e (inl c) =
        let o : IsOnPath g x = setting-path g inv p q x k e in
        elim (nearer-critical inv.kind (run inv 0 (word g (0 ∷ c.walk))) (run-le inv.kind inv.a inv.b 0 (word g (0 ∷ c.walk)) (omega arith)) c.nearer) [
          | inl d ↦ either (λ u. Fore inv g u) p q x e (c.walk, c.along, d)
          | inr d ↦ absurd (none_bad g inv (c.walk ++ o.1) k.satisfied (walk_join g 0 c.walk x o.1 1 c.along o.3) (lost-end g inv 0 (0 ∷ c.walk) o.1 d))
        ]
    of x e (inr c) = elim c.known.1 [ inl t ↦ inl (subst (λ (u : ℕ). Fore inv g u) t.0 c.known.2) | inr t ↦ inr (subst (λ (u : ℕ). Fore inv g u) t.0 c.known.2) ]

-- z is one of the two
abbrev IsTwin : ℕ → ℕ → ℕ → Type 0
IsTwin p q z = (z ≡ p) ⊎ (z ≡ q)

twin-turns : (g : Graph) (inv : Invariant) (p q : ℕ) → IsTurning g inv p q (IsTwin p q)
twin-turns g inv p q =
    record {
      gives = λ x w tw f. other x w tw;
      turns = λ x w z tw m. inl (other x w tw);
    }
  where
    other : (x w : ℕ) → AreTwins p q x w → IsTwin p q w
    other x w (inl e) = inr e.1
    other x w (inr e) = inl e.1

-- where the bad end is ahead of it
ahead : (g : Graph) (inv : Invariant) (p q : ℕ) → IsSetting g inv p q → Back inv (Merged g p q) p → Back inv g p ⊎ Back inv g q
ahead g inv p q k b =
    elim (walks g inv p q (IsTwin p q) p b.0 1 (critical inv) k (twin-turns g inv p q) (critical-le inv.kind) at b.1) [
      | inl c ↦ either (λ u. Back inv g u) p q c.0 c.1 c.2
      | inr i ↦
          let e : Ends g inv (IsTwin p q) = ends-bad g inv p q (IsTwin p q) (run inv (critical inv) (word g b.0)) k b.2 i in
          either (λ u. Back inv g u) p q e.0 e.1 e.2
    ]
  where
    at : StandsFor g inv p q (IsTwin p q) p (critical inv)
    at =
        let m : p < q = k.order in (
          p,
          onto_other p q p (λ e. absurd (omega arith)),
          inr (record { z = p; known = inl refl; walk = []; along = refl; nearer = nearer-self inv.kind (critical inv) }),
        )

-- the merged id is met, or has the bad end ahead, exactly where one of the two is, or has
pub merged_is_union : MergedIsUnion
merged_is_union g inv p q l m t a b s =
    let k : IsSetting g inv p q = record { low = l; order = m; types = t; one = a; other = b; satisfied = merged_keeps g p q l m t inv s } in
    let n : Clash inv g p q → ⊥ = (merge_keeps g inv p q l m t a b k.satisfied).0 s in
    let pp : onto p q p ≡ p = onto_other p q p (λ e. absurd (omega arith)) in
    let qp : onto p q q ≡ p = onto_is p q q refl in (
      (
        λ f. met g inv p q k n f,
        λ f. elim f [
          | inl h ↦ subst (λ (u : ℕ). Fore inv (Merged g p q) u) pp ((merged_has_more g inv p q p l m t).0 h)
          | inr h ↦ subst (λ (u : ℕ). Fore inv (Merged g p q) u) qp ((merged_has_more g inv p q q l m t).0 h)
        ],
      ),
      (
        λ f. ahead g inv p q k f,
        λ f. elim f [
          | inl h ↦ subst (λ (u : ℕ). Back inv (Merged g p q) u) pp ((merged_has_more g inv p q p l m t).1 h)
          | inr h ↦ subst (λ (u : ℕ). Back inv (Merged g p q) u) qp ((merged_has_more g inv p q q l m t).1 h)
        ],
      ),
    )
