-- A search for the states that are reached: what is left of all ids with all states is made less by one that is reached, until nothing in it is.
use Rattle.std.proofs.Common.{◌≡◌, ◌⊎◌, ℕ, zero, suc, ◌<◌, true, List, [], ◌∷◌, ◌++◌, length, sym, ◌∙◌, refl, ap, subst, inl, inr, arith}
use Rattle.std.proofs.lemmas.Bool.{cases_eq, cases_lt}
use Rattle.invariants.specs.declared.Invariant.{Invariant}
use Rattle.invariants.specs.Monitors.{step, run}
use Rattle.partition_model.specs.Graphs.{Graph, Walk, word, IsFormed}
use Rattle.partition_model.specs.Labels.{Reached}
use Rattle.partition_model.proofs.Lists.{In}
use Rattle.partition_model.proofs.Labelling.{walk_more, run_more}
use Rattle.partition_bounds.specs.Laws.{IsBelow}
use Rattle.partition_bounds.proofs.Short.{step-small}
use Rattle.refinement_end.proofs.Searching.{first-below}
use Rattle.models.proofs.Deciding.{OrNot, both, number-or-not, true-or-not, not-or-not, any-or-not}
use Rattle.model_exists.specs.Laws.{ReachedOrNot}

-- an id with a state
record Spot : Type 0 where
  id : ℕ
  state : ℕ

-- the state at the id
abbrev spot : ℕ → ℕ → Spot
spot p s = record { id = p; state = s }

-- the ids below n with all states
spots : ℕ → List Spot
spots zero = []
spots (suc n) = spot n 0 ∷ spot n 1 ∷ spot n 2 ∷ spots n

-- two such are the same or not
spot-or-not : (x y : Spot) → OrNot (x ≡ y)
spot-or-not x y =
    elim (both (number-or-not x.id y.id) (number-or-not x.state y.state)) [
      | inl e ↦ inl (λ d. record { id = e.0 d; state = e.1 d })
      | inr n ↦ inr (λ e. n (ap (λ (z : Spot). z.id) e, ap (λ (z : Spot). z.state) e))
    ]

-- one is in a list or not
in-or-not : (x : Spot) (xs : List Spot) → OrNot (In x xs)
in-or-not x [] = inr (λ i. i)
in-or-not x (y ∷ ys) =
    elim (spot-or-not y x) [
      | inl e ↦ inl (inl e)
      | inr n ↦ elim (in-or-not x ys) [
        | inl i ↦ inl (inr i)
        | inr m ↦ inr (λ o. elim o [ inl e ↦ n e | inr i ↦ m i ])
      ]
    ]

-- each id below n with each state is among them
spot-In : (n p s : ℕ) → p < n → s < 3 → In (spot p s) (spots n)
unfolding spots
spot-In zero p s l k = absurd (omega arith)
spot-In (suc n) p s l k =
    elim (cases_eq p n) [
      | inl e ↦ subst (λ (q : ℕ). In (spot q s) (spots (suc n))) (sym e) (here s k)
      | inr f ↦ inr (inr (inr (spot-In n p s (less f) k)))
    ]
  where
    here : (t : ℕ) → t < 3 → In (spot n t) (spot n 0 ∷ spot n 1 ∷ spot n 2 ∷ spots n)
    here zero m = inl refl
    here (suc zero) m = inr (inl refl)
    here (suc (suc zero)) m = inr (inr (inl refl))
    here (suc (suc (suc t))) m = absurd (omega arith)

    less : (p ≡ n → ⊥) → p < n
    less f = elim (cases_lt p n) [ inl m ↦ m | inr m ↦ absurd (f (omega arith)) ]

-- the list without one of its members
record IsWithout (x : Spot) (xs ys : List Spot) : Type 0 where
  shorter : length xs ≡ suc (length ys)
  others : (y : Spot) → In y xs → (y ≡ x) ⊎ In y ys

-- there is such a list
without : (x : Spot) (xs : List Spot) → In x xs → (ys : List Spot) × IsWithout x xs ys
without x [] i = absurd i
without x (z ∷ xs) (inl e) = (
  xs,
  record { shorter = refl; others = λ y j. elim j [ inl f ↦ inl (sym f ∙ e) | inr k ↦ inr k ] },
)
without x (z ∷ xs) (inr i) =
    let o : (ys : List Spot) × IsWithout x xs ys = without x xs i in (
      z ∷ o.0,
      record {
        shorter = ap suc o.1.shorter;
        others = λ y j. elim j [
          | inl f ↦ inr (inl f)
          | inr k ↦ elim (o.1.others y k) [ inl f ↦ inl f | inr h ↦ inr (inr h) ]
        ];
      },
    )

-- some number below n has the property, or none has it
any-below : (P : ℕ → Type 0) → ((q : ℕ) → OrNot (P q)) → (n : ℕ) → OrNot ((q : ℕ) × (q < n) × P q)
any-below P d n =
    elim (first-below P d n) [
      | inl f ↦ inl (f.0, f.1, f.2.0)
      | inr none ↦ inr (λ o. none o.0 o.1 o.2)
    ]

-- one of two facts holds or neither, where each holds or not
either : {P Q : Type 0} → OrNot P → OrNot Q → OrNot (P ⊎ Q)
either (inl p) q = inl (inl p)
either (inr n) (inl q) = inl (inr q)
either (inr n) (inr m) = inr (λ o. elim o [ inl p ↦ n p | inr q ↦ m q ])

-- an edge leads from q to p, the step from t there gives the state s, and t at q is no more in the list
abbrev IsFrom : Graph → Invariant → List Spot → Spot → ℕ → ℕ → Type 0
IsFrom g inv todo x q t = (In (spot q t) todo → ⊥) × ((g.edge q x.id ≡ true) × (step inv t (g.typ x.id) ≡ x.state))

-- it is the state after INITIAL, or is entered from one that is no more in the list
abbrev IsEntered : Graph → Invariant → ℕ → List Spot → Spot → Type 0
IsEntered g inv n todo x =
    ((x.id ≡ 0) × (step inv 0 (g.typ 0) ≡ x.state)) ⊎ ((q : ℕ) × (q < n) × ((t : ℕ) × (t < 3) × IsFrom g inv todo x q t))

-- it is or not
entered-or-not : (g : Graph) (inv : Invariant) (n : ℕ) (todo : List Spot) (x : Spot) → OrNot (IsEntered g inv n todo x)
entered-or-not g inv n todo x =
    either (both (number-or-not x.id 0) (number-or-not (step inv 0 (g.typ 0)) x.state))
    (any-below (λ q. (t : ℕ) × (t < 3) × IsFrom g inv todo x q t)
    (λ q. any-below (λ t. IsFrom g inv todo x q t)
    (λ t. both (not-or-not (in-or-not (spot q t) todo)) (both (true-or-not (g.edge q x.id)) (number-or-not (step inv t (g.typ x.id)) x.state))) 3) n)

-- what is not in the list any more is reached
abbrev OutsideReached : Graph → Invariant → ℕ → List Spot → Type 0
OutsideReached g inv n todo = (p s : ℕ) → p < n → s < 3 → Reached inv g p s ⊎ In (spot p s) todo

-- after an edge the step is reached
reached-more : (g : Graph) (inv : Invariant) (q t p s : ℕ) → Reached inv g q t → g.edge q p ≡ true → step inv t (g.typ p) ≡ s → Reached inv g p s
reached-more g inv q t p s r e f = (
  r.0 ++ p ∷ [],
  walk_more g 0 r.0 q p r.1 e,
  run_more inv g 0 (0 ∷ r.0) p ∙ (ap (λ (u : ℕ). step inv u (g.typ p)) r.2 ∙ f),
)

-- so what is entered is reached
entered-reached : (g : Graph) (inv : Invariant) (n : ℕ) (todo : List Spot) (x : Spot) → OutsideReached g inv n todo → IsEntered g inv n todo x → Reached inv g x.id x.state
entered-reached g inv n todo x c (inl b) = subst (λ (p : ℕ). Reached inv g p x.state) (sym b.0) ([], refl, b.1)
entered-reached g inv n todo x c (inr o) =
    let f : IsFrom g inv todo x o.0 o.2.0 = o.2.2 in
    elim (c o.0 o.2.0 o.1 o.2.1) [
      | inl r ↦ reached-more g inv o.0 o.2.0 x.id x.state r f.1.0 f.1.1
      | inr i ↦ absurd (f.0 i)
    ]

-- edges are between ids below n, of which INITIAL is one
record IsWithin (g : Graph) (n : ℕ) : Type 0 where
  start : 0 < n
  to : (p q : ℕ) → g.edge p q ≡ true → q < n

-- a walk from an id below n leads to one, and the monitor goes from one of its three states to one
walk-small : (g : Graph) (inv : Invariant) (n q t : ℕ) (xs : List ℕ) (p : ℕ) → IsWithin g n → q < n → t < 3 → Walk g q xs p → (p < n) × (run inv t (word g xs) < 3)
walk-small g inv n q t [] p w l k a = (subst (λ (z : ℕ). z < n) a l, k)
walk-small g inv n q t (x ∷ xs) p w l k a = walk-small g inv n x (step inv t (g.typ x)) xs p w (w.to q x a.0) (step-small inv t (g.typ x) k) a.1

-- if nothing in the list is entered, a walk that begins outside of it stays outside
walk-outside : (g : Graph) (inv : Invariant) (n : ℕ) (todo : List Spot) (q t : ℕ) (xs : List ℕ) (p : ℕ) → IsWithin g n
    → ((x : Spot) → In x todo → IsEntered g inv n todo x → ⊥) → q < n → t < 3 → (In (spot q t) todo → ⊥) → Walk g q xs p → In (spot p (run inv t (word g xs))) todo → ⊥
walk-outside g inv n todo q t [] p w none l k out a i = out (subst (λ (z : ℕ). In (spot z t) todo) (sym a) i)
walk-outside g inv n todo q t (x ∷ xs) p w none l k out a i =
    walk-outside g inv n todo x (step inv t (g.typ x)) xs p w none (w.to q x a.0) (step-small inv t (g.typ x) k)
    (λ j. none (spot x (step inv t (g.typ x))) j (inr (q, l, (t, k, (out, (a.0, refl)))))) a.1 i

-- so what is reached is outside
reached-outside : (g : Graph) (inv : Invariant) (n : ℕ) (todo : List Spot) (p s : ℕ) → IsWithin g n
    → ((x : Spot) → In x todo → IsEntered g inv n todo x → ⊥) → Reached inv g p s → In (spot p s) todo → ⊥
reached-outside g inv n todo p s w none r i =
    walk-outside g inv n todo 0 (step inv 0 (g.typ 0)) r.0 p w none w.start (step-small inv 0 (g.typ 0) (omega arith))
    (λ j. none (spot 0 (step inv 0 (g.typ 0))) j (inl (refl, refl))) r.1 (subst (λ (z : ℕ). In (spot p z) todo) (sym r.2) i)

-- whatever is left to be searched, each state at each id is reached or not
search : (g : Graph) (inv : Invariant) (n k : ℕ) (todo : List Spot) → IsWithin g n → length todo ≡ k → OutsideReached g inv n todo
    → (p s : ℕ) → p < n → s < 3 → OrNot (Reached inv g p s)
search g inv n zero [] w e c p s l m = elim (c p s l m) [ inl r ↦ inl r | inr i ↦ absurd i ]
search g inv n zero (x ∷ xs) w e c p s l m = absurd (omega arith)
search g inv n (suc k) todo w e c p s l m =
    elim (any-or-not (IsEntered g inv n todo) (entered-or-not g inv n todo) todo) [
      | inl o ↦
          let r : Reached inv g o.0.id o.0.state = entered-reached g inv n todo o.0 c o.2 in
          let y : (ys : List Spot) × IsWithout o.0 todo ys = without o.0 todo o.1 in
          let f : length todo ≡ suc (length y.0) = y.1.shorter in
          search g inv n k y.0 w (omega arith) (λ q t lq lt. elim (c q t lq lt) [
            | inl a ↦ inl a
            | inr i ↦ elim (y.1.others (spot q t) i) [
              | inl d ↦ inl (subst (λ (z : Spot). Reached inv g z.id z.state) (sym d) r)
              | inr j ↦ inr j
            ]
          ]) p s l m
      | inr none ↦ elim (c p s l m) [
        | inl r ↦ inl r
        | inr i ↦ inr (λ r. reached-outside g inv n todo p s w (λ x j t. none (x, j, t)) r i)
      ]
    ]

-- the edges of a formed graph are between listed ids
within : (g : Graph) (n : ℕ) → IsFormed g → IsBelow n g → IsWithin g n
within g n f below = record { start = below 0 f.start_listed; to = λ p q e. below q (f.between p q e).1 }

-- a state is reached at an id, or it is not
pub reached_or_not : ReachedOrNot
reached_or_not inv g n p s f below =
    elim (both (small p n) (small s 3)) [
      | inl b ↦ search g inv n (length (spots n)) (spots n) w refl (λ q t l k. inr (spot-In n q t l k)) p s b.0 b.1
      | inr no_one ↦ inr (λ r.
          (let a : (p < n) × (run inv 0 (word g (0 ∷ r.0)) < 3) =
          walk-small g inv n 0 (step inv 0 (g.typ 0)) r.0 p w w.start (step-small inv 0 (g.typ 0) (omega arith)) r.1 in
          no_one (a.0, subst (λ (z : ℕ). z < 3) r.2 a.1)))
    ]
  where
    w : IsWithin g n
    w = within g n f below

    small : (x y : ℕ) → OrNot (x < y)
    small x y = elim (cases_lt x y) [ inl l ↦ inl l | inr k ↦ inr (λ l. omega (arith, l, k)) ]
