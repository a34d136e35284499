-- Where a walk of the merged graph stands, told by walks of the graph itself.
use Rattle.std.proofs.Common.{◌≡◌, ℕ, ◌≤◌, ◌<◌, ◌⊎◌, true, List, [], ◌∷◌, ◌++◌, sym, ◌∙◌, refl, ap, subst, inl, inr, arith, eq-eqb}
use Rattle.std.proofs.lemmas.Bool.{cases_eq}
use Rattle.invariants.specs.declared.Invariant.{Invariant}
use Rattle.invariants.specs.Monitors.{step, run, is_bad, bad_of}
use Rattle.invariants.proofs.Agree.{step-le}
use Rattle.partition_model.specs.Graphs.{Graph, Walk, word, Satisfies, Merged}
use Rattle.partition_model.specs.Coarsening.{onto}
use Rattle.partition_model.proofs.Labelling.{walk_more, run_more}
use Rattle.partition_model.proofs.Merging.{onto_is, onto_other, merged_parts}
use Rattle.merge_law.specs.Critical.{critical, Fore, Back, IsOnPath}
use Rattle.merge_law.proofs.Danger.{IsNearer, IsSafe, IsLost, nearer-self, nearer-step, three, lost-run, run-le, critical-le, nearer-bad}
use Rattle.merge_law.proofs.Walks.{walk_join, run_join, none_bad, onto-typed}

-- one is p, and the other is q
abbrev pub AreTwins : ℕ → ℕ → ℕ → ℕ → Type 0
AreTwins p q y z = ((y ≡ p) × (z ≡ q)) ⊎ ((y ≡ q) × (z ≡ p))

-- what is known of the graph and its two ids
pub record IsSetting (g : Graph) (inv : Invariant) (p q : ℕ) : Type 0 where
  pub low : 2 ≤ p
  pub order : p < q
  pub types : g.typ p ≡ g.typ q
  pub one : IsOnPath g p
  pub other : IsOnPath g q
  pub satisfied : Satisfies g inv

-- a walk to x ends at least as near to the bad end as s
pub record Comes (g : Graph) (inv : Invariant) (x s : ℕ) : Type 0 where
  pub walk : List ℕ
  pub along : Walk g 0 walk x
  pub nearer : IsNearer inv.kind s (run inv 0 (word g (0 ∷ walk)))

-- a walk from one of the two, for which K holds, begins in the critical state and ends at x so
pub record Crosses (g : Graph) (inv : Invariant) (K : ℕ → Type 0) (x s : ℕ) : Type 0 where
  pub z : ℕ
  pub known : K z
  pub walk : List ℕ
  pub along : Walk g z walk x
  pub nearer : IsNearer inv.kind s (run inv (critical inv) (word g walk))

-- a walk comes to x from the start, or crosses to it from one of the two
abbrev pub Stands : Graph → Invariant → (ℕ → Type 0) → ℕ → ℕ → Type 0
Stands g inv K x s = Comes g inv x s ⊎ Crosses g inv K x s

-- K goes from one of the two to the other, where it does not the other is met, and where one is met it holds of the other
pub record IsTurning (g : Graph) (inv : Invariant) (p q : ℕ) (K : ℕ → Type 0) : Type 0 where
  pub gives : (x w : ℕ) → AreTwins p q x w → Fore inv g x → K w
  pub turns : (x w z : ℕ) → AreTwins p q x w → K z → K w ⊎ Fore inv g w

-- one for which K holds has the bad end ahead
abbrev pub Ends : Graph → Invariant → (ℕ → Type 0) → Type 0
Ends g inv K = (z : ℕ) × K z × Back inv g z

-- each of the two is on a path
pub on-path : (g : Graph) (inv : Invariant) (p q x w : ℕ) → IsSetting g inv p q → AreTwins p q x w → IsOnPath g x
on-path g inv p q x w k (inl e) = subst (λ (u : ℕ). IsOnPath g u) (sym e.0) k.one
on-path g inv p q x w k (inr e) = subst (λ (u : ℕ). IsOnPath g u) (sym e.0) k.other

-- twins are twins the other way round
pub flip : (p q x w : ℕ) → AreTwins p q x w → AreTwins p q w x
flip p q x w (inl e) = inr (e.1, e.0)
flip p q x w (inr e) = inl (e.1, e.0)

-- two ids with one image are one id, or twins
pub same-image : (p q x w : ℕ) → onto p q x ≡ onto p q w → (x ≡ w) ⊎ AreTwins p q x w
same-image p q x w e =
    elim (cases_eq x q) [
      | inl a ↦ elim (cases_eq w q) [
        | inl b ↦ inl (a ∙ sym b)
        | inr b ↦ inr (inr (a, sym (sym (onto_is p q x a) ∙ e ∙ onto_other p q w b)))
      ]
      | inr a ↦ elim (cases_eq w q) [
        | inl b ↦ inr (inl (sym (onto_other p q x a) ∙ e ∙ onto_is p q w b, b))
        | inr b ↦ inl (sym (onto_other p q x a) ∙ e ∙ onto_other p q w b)
      ]
    ]

-- a walk that stands at an id stands one step on along an edge
pub goes : (g : Graph) (inv : Invariant) (K : ℕ → Type 0) (x s v : ℕ) → Stands g inv K x s → g.edge x v ≡ true → Stands g inv K v (step inv s (g.typ v))
goes g inv K x s v (inl c) e =
    inl (record {
      walk = c.walk ++ v ∷ [];
      along = walk_more g 0 c.walk x v c.along e;
      nearer = subst (λ (t : ℕ). IsNearer inv.kind (step inv s (g.typ v)) t) (sym (run_more inv g 0 (0 ∷ c.walk) v))
          (nearer-step inv.kind inv.a inv.b (g.typ v) s (run inv 0 (word g (0 ∷ c.walk))) c.nearer);
    })
goes g inv K x s v (inr c) e =
    inr (record {
      z = c.z;
      known = c.known;
      walk = c.walk ++ v ∷ [];
      along = walk_more g c.z c.walk x v c.along e;
      nearer = subst (λ (t : ℕ). IsNearer inv.kind (step inv s (g.typ v)) t) (sym (run_more inv g (critical inv) c.walk v))
          (nearer-step inv.kind inv.a inv.b (g.typ v) s (run inv (critical inv) (word g c.walk)) c.nearer);
    })

-- from a lost state the end is bad
pub lost-end : (g : Graph) (inv : Invariant) (s : ℕ) (xs ys : List ℕ) → IsLost inv.kind (run inv s (word g xs)) → is_bad inv (run inv s (word g (xs ++ ys))) ≡ true
lost-end g inv s xs ys l =
    let e : run inv (run inv s (word g xs)) (word g ys) ≡ bad_of inv.kind = lost-run inv.kind inv.a inv.b (run inv s (word g xs)) (word g ys) l in
    eq-eqb (run inv s (word g (xs ++ ys))) (bad_of inv.kind) (run_join inv g s xs ys ∙ e)

-- a state from which nothing bad comes is as near at any walk
safe : (g : Graph) (inv : Invariant) (p q x w s t : ℕ) → IsSetting g inv p q → AreTwins p q x w → s ≤ 2 → IsNearer inv.kind s t → IsSafe inv.kind t → Comes g inv w s
safe g inv p q x w s t k tw l n f =
    let o : IsOnPath g w = on-path g inv p q w x k (flip p q x w tw) in
    record { walk = o.0; along = o.2; nearer = f s (run inv 0 (word g (0 ∷ o.0))) n l }

-- from one of the two to the other
pub swap : (g : Graph) (inv : Invariant) (p q : ℕ) (K : ℕ → Type 0) (x w s : ℕ) → IsSetting g inv p q → IsTurning g inv p q K → AreTwins p q x w → s ≤ 2
    → Stands g inv K x s → Ends g inv K ⊎ Stands g inv K w s
swap g inv p q K x w s k h tw l (inl c) =
    let t : ℕ = run inv 0 (word g (0 ∷ c.walk)) in
    let o : IsOnPath g x = on-path g inv p q x w k tw in
    elim (three inv.kind (run inv 0 (word g (0 ∷ c.walk))) (run-le inv.kind inv.a inv.b 0 (word g (0 ∷ c.walk)) (omega arith))) [
      | inl f ↦ inr (inl (safe g inv p q x w s t k tw l c.nearer f))
      | inr d ↦ elim d [
        | inl e ↦ inr (inr (record {
          z = w;
          known = h.gives x w tw (c.walk, c.along, e);
          walk = [];
          along = refl;
          nearer = subst (λ (u : ℕ). IsNearer inv.kind s u) e c.nearer;
        }))
        | inr f ↦ absurd (none_bad g inv (c.walk ++ o.1) k.satisfied (walk_join g 0 c.walk x o.1 1 c.along o.3) (lost-end g inv 0 (0 ∷ c.walk) o.1 f))
      ]
    ]
swap g inv p q K x w s k h tw l (inr c) =
    let t : ℕ = run inv (critical inv) (word g c.walk) in
    let o : IsOnPath g x = on-path g inv p q x w k tw in
    elim (three inv.kind (run inv (critical inv) (word g c.walk)) (run-le inv.kind inv.a inv.b (critical inv) (word g c.walk) (critical-le inv.kind))) [
      | inl f ↦ inr (inl (safe g inv p q x w s t k tw l c.nearer f))
      | inr d ↦ elim d [
        | inl e ↦
            let n : IsNearer inv.kind s (critical inv) = subst (λ (u : ℕ). IsNearer inv.kind s u) e c.nearer in
            elim (h.turns x w c.z tw c.known) [
              | inl z ↦ inr (inr (record { z = w; known = z; walk = []; along = refl; nearer = n }))
              | inr f ↦ inr (inl (record { walk = f.0; along = f.1; nearer = subst (λ (u : ℕ). IsNearer inv.kind s u) (sym f.2) n }))
            ]
        | inr f ↦ inl (c.z, c.known, (c.walk ++ o.1, walk_join g c.z c.walk x o.1 1 c.along o.3, lost-end g inv (critical inv) c.walk o.1 f))
      ]
    ]

-- an id of the graph that the merged graph's u stands for, and what is known there
abbrev pub StandsFor : Graph → Invariant → ℕ → ℕ → (ℕ → Type 0) → ℕ → ℕ → Type 0
StandsFor g inv p q K u s = (x : ℕ) × (onto p q x ≡ u) × Stands g inv K x s

-- at every id that stands for it
leave : (g : Graph) (inv : Invariant) (p q : ℕ) (K : ℕ → Type 0) (u s w : ℕ) → IsSetting g inv p q → IsTurning g inv p q K → s ≤ 2
    → StandsFor g inv p q K u s → onto p q w ≡ u → Ends g inv K ⊎ Stands g inv K w s
leave g inv p q K u s w k h l i e =
    elim (same-image p q i.0 w (i.1 ∙ sym e)) [
      | inl a ↦ inr (subst (λ (x : ℕ). Stands g inv K x s) a i.2)
      | inr tw ↦ swap g inv p q K i.0 w s k h tw l i.2
    ]

-- the type of what u stands for
onto-type : (g : Graph) (inv : Invariant) (p q x u : ℕ) → IsSetting g inv p q → onto p q x ≡ u → g.typ x ≡ g.typ u
onto-type g inv p q x u k e = sym (onto-typed g p q x k.types) ∙ ap g.typ e

-- a walk of the merged graph
pub walks : (g : Graph) (inv : Invariant) (p q : ℕ) (K : ℕ → Type 0) (u : ℕ) (xs : List ℕ) (v s : ℕ) → IsSetting g inv p q → IsTurning g inv p q K → s ≤ 2
    → StandsFor g inv p q K u s → Walk (Merged g p q) u xs v → Ends g inv K ⊎ StandsFor g inv p q K v (run inv s (word g xs))
walks g inv p q K u [] v s k h l i w = inr (subst (λ (z : ℕ). StandsFor g inv p q K z s) w i)
walks g inv p q K u (r ∷ rs) v s k h l i w =
    let m : (x y : ℕ) × (onto p q x ≡ u) × (onto p q y ≡ r) × (g.edge x y ≡ true) = merged_parts g p q u r w.0 in
    elim (leave g inv p q K u s m.0 k h l i m.2) [
      | inl c ↦ inl c
      | inr st ↦
          let t : g.typ m.1 ≡ g.typ r = onto-type g inv p q m.1 r k m.3 in
          let st1 : Stands g inv K m.1 (step inv s (g.typ m.1)) = goes g inv K m.0 s m.1 st m.4 in
          let st2 : Stands g inv K m.1 (step inv s (g.typ r)) = subst (λ (z : ℕ). Stands g inv K m.1 (step inv s z)) t st1 in
          walks g inv p q K r rs v (step inv s (g.typ r)) k h (step-le inv.kind inv.a inv.b s (g.typ r) l) (m.1, m.3, st2) w.1
    ]

-- a walk of the merged graph from 0
pub from-start : (g : Graph) (inv : Invariant) (p q : ℕ) (K : ℕ → Type 0) (xs : List ℕ) (v : ℕ) → IsSetting g inv p q → IsTurning g inv p q K
    → Walk (Merged g p q) 0 xs v → Ends g inv K ⊎ StandsFor g inv p q K v (run inv 0 (word g (0 ∷ xs)))
from-start g inv p q K xs v k h w = walks g inv p q K 0 xs v (step inv 0 (g.typ 0)) k h (step-le inv.kind inv.a inv.b 0 (g.typ 0) (omega arith)) start w
  where
    start : StandsFor g inv p q K 0 (step inv 0 (g.typ 0))
    start =
        let l : 2 ≤ p = k.low in
        let m : p < q = k.order in (
          0,
          onto_other p q 0 (λ e. absurd (omega arith)),
          inl (record { walk = []; along = refl; nearer = nearer-self inv.kind (step inv 0 (g.typ 0)) }),
        )

is-one : (p q x : ℕ) → 2 ≤ p → p < q → onto p q x ≡ 1 → x ≡ 1
is-one p q x l m e =
    elim (cases_eq x q) [
      | inl a ↦ let z : p ≡ 1 = sym (onto_is p q x a) ∙ e in absurd (omega arith)
      | inr a ↦ sym (onto_other p q x a) ∙ e
    ]

-- at the end, in the bad state
pub ends-bad : (g : Graph) (inv : Invariant) (p q : ℕ) (K : ℕ → Type 0) (s : ℕ) → IsSetting g inv p q → is_bad inv s ≡ true → StandsFor g inv p q K 1 s → Ends g inv K
ends-bad g inv p q K s k b i =
    ends (subst (λ (x : ℕ). Stands g inv K x s) (is-one p q i.0 k.low k.order i.1) i.2)
  where
    ends : Stands g inv K 1 s → Ends g inv K
    ends (inl c) =
        absurd (none_bad g inv c.walk k.satisfied c.along
        (nearer-bad inv.kind s (run inv 0 (word g (0 ∷ c.walk))) (run-le inv.kind inv.a inv.b 0 (word g (0 ∷ c.walk)) (omega arith)) c.nearer b))
    ends (inr c) = (
      c.z,
      c.known,
      (
        c.walk,
        c.along,
        nearer-bad inv.kind s (run inv (critical inv) (word g c.walk)) (run-le inv.kind inv.a inv.b (critical inv) (word g c.walk) (critical-le inv.kind)) c.nearer b,
      ),
    )
