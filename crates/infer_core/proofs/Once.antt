-- A type that no walk has twice: InterruptedBy of it has the labels of AlwaysFollowedBy.
use Rattle.std.proofs.Common.{◌≡◌, ◌≢◌, ◌↔◌, ◌⊎◌, ℕ, zero, suc, ◌+◌, ◌<◌, ◌≤◌, ◌==◌, Bool, true, false, List, [], ◌∷◌, ◌++◌, map, sym, ◌∙◌, ap, subst, refl, inl, inr, arith, ne_eqb, eq-eqb, get_or, length, slice_get, take, Some, ◌-◌}
use Rattle.std.proofs.lemmas.Bool.{cases_Bool, cases_eq, cases_lt, and_parts}
use Rattle.std.proofs.lemmas.List.{map-append, get_or_append_left, get_or-append_right}
use Rattle.std.proofs.lemmas.Option.{same_Some, none-some}
use Rattle.invariants.specs.declared.Invariant.{Invariant}
use Rattle.invariants.specs.declared.Kind.{Kind}
use Rattle.invariants.specs.declared.Kind.TheVariants.{AF, NF, IB}
use Rattle.invariants.specs.declared.records.Partition.{Partition}
use Rattle.invariants.specs.Candidates.{invariant}
use Rattle.invariants.specs.Holds.{At, NeverFollowedBy}
use Rattle.invariants.specs.Monitors.{run_of, step_of}
use Rattle.path_finder.proofs.Reaching.{slice_get_kept}
use Rattle.partition_model.specs.Assignments.{Assignment, G, IsTyped, ids_of, pairs}
use Rattle.partition_model.specs.Graphs.{Graph, IsPath, Satisfies, Walk, word}
use Rattle.partition_model.specs.Labels.{Reached}
use Rattle.partition_model.proofs.Following.{follows}
use Rattle.partition_model.proofs.Lists.{edge-In}
use Rattle.models.specs.Models.{AreReached}
use Rattle.limits.specs.declared.TheConstants.{LAST_TYPE}
use Rattle.infer_core.specs.Portions.{AreNamed}
use Rattle.infer_core.specs.Vacuous.{for_gaps, AreMetOnce, AreMetOnceOnWalks, Covers, HasLabelsOf}
use Rattle.infer_core.proofs.Vacuous.{flag-within, gap-kind}

-- what stands where there is no invariant
abbrev pub no_invariant : Invariant
no_invariant = record { kind = AF; a = 0; b = 0 }

-- a state of both monitors
IsLow : ℕ → Type 0
IsLow s = (s ≡ 0) ⊎ (s ≡ 1)

-- at another type than a, both monitors do the same
step-other : (a b s x : ℕ) → x ≢ a → IsLow s → (step_of AF a b s x ≡ step_of IB a b s x) × IsLow (step_of AF a b s x)
unfolding IsLow
step-other a b s x other low =
    let na : (x == a) ≡ false = ne_eqb x a other in
    elim (cases_Bool (x == b)) [
      | inl t ↦ elim low [
        | inl z ↦ rw (na, t, z) (refl, inl refl)
        | inr o ↦ rw (na, t, o) (refl, inl refl)
      ]
      | inr f ↦ elim low [
        | inl z ↦ rw (na, f, z) (refl, inl refl)
        | inr o ↦ rw (na, f, o) (refl, inr refl)
      ]
    ]

-- over a word without a, too
run-without : (a b s : ℕ) (w : List ℕ) → ((i : ℕ) → At w i a → ⊥) → IsLow s → run_of AF a b s w ≡ run_of IB a b s w
run-without a b s [] none low = refl
run-without a b s (x ∷ w) none low =
    let one : (step_of AF a b s x ≡ step_of IB a b s x) × IsLow (step_of AF a b s x) = step-other a b s x (λ e. none 0 e) low in
    run-without a b (step_of AF a b s x) w (λ i at. none (suc i) at) one.1 ∙ ap (λ (t : ℕ). run_of IB a b t w) one.0

-- and over a word that has a once at most
run-once : (a b : ℕ) (w : List ℕ) → NeverFollowedBy a a w → run_of AF a b 0 w ≡ run_of IB a b 0 w
unfolding IsLow
run-once a b [] once = refl
run-once a b (x ∷ w) once =
    elim (cases_eq x a) [
      | inl e ↦
          let both : (x == a) ≡ true = eq-eqb x a e in
          let rest : run_of AF a b 1 w ≡ run_of IB a b 1 w = run-without a b 1 w (λ i at. once 0 e (suc i) (omega arith) at) (inr refl) in
          rw both rest
      | inr n ↦
          let na : (x == a) ≡ false = ne_eqb x a n in
          let rest : run_of AF a b 0 w ≡ run_of IB a b 0 w = run-once a b w (λ i first j later second. once (suc i) first (suc j) (omega (arith, later)) second) in
          elim (cases_Bool (x == b)) [
            | inl t ↦ rw (na, t) rest
            | inr f ↦ rw (na, f) rest
          ]
    ]

-- one walk after another
walk-on : (g : Graph) (p : ℕ) (xs : List ℕ) (q : ℕ) (ys : List ℕ) (r : ℕ) → Walk g p xs q → Walk g q ys r → Walk g p (xs ++ ys) r
walk-on g p [] q ys r first second = subst (λ (z : ℕ). Walk g z ys r) (sym first) second
walk-on g p (x ∷ xs) q ys r first second = (first.0, walk-on g x xs q ys r first.1 second)

-- a walk with an edge ends with one
last-edge : (g : Graph) (p x : ℕ) (xs : List ℕ) (q : ℕ) → Walk g p (x ∷ xs) q → (u : ℕ) × (g.edge u q ≡ true)
last-edge g p x [] q w = (p, subst (λ (z : ℕ). g.edge p z ≡ true) w.1 w.0)
last-edge g p x (y ∷ xs) q w = last-edge g x y xs q w.1

-- a place where the second of two is another one adds nothing
pairs-other : (u v p x : ℕ) (xs : List ℕ) → (x == v) ≡ false → pairs u v (p ∷ x ∷ xs) ≡ pairs u v (x ∷ xs)
pairs-other u v p x xs nv =
    elim (cases_Bool (p == u)) [
      | inl t ↦ rw (t, nv) (omega arith)
      | inr f ↦ rw f (omega arith)
    ]

-- nor does the last place
pairs-last : (u v p : ℕ) → pairs u v (p ∷ []) ≡ 0
pairs-last u v p =
    elim (cases_Bool (p == u)) [
      | inl t ↦ rw t refl
      | inr f ↦ rw f refl
    ]

-- from the second of two neighbours of a walk, the walk goes on to its end
after-pair : (g : Graph) (u v p : ℕ) (xs : List ℕ) (q : ℕ) → Walk g p xs q → 0 < pairs u v (p ∷ xs) → (ys : List ℕ) × Walk g v ys q
after-pair g u v p [] q w k = absurd (omega (arith, k, pairs-last u v p))
after-pair g u v p (x ∷ xs) q w k =
    elim (cases_eq x v) [
      | inl e ↦ (xs, subst (λ (z : ℕ). Walk g z xs q) e w.1)
      | inr n ↦ after-pair g u v x xs q w.1 (omega (arith, k, pairs-other u v p x xs (ne_eqb x v n)))
    ]

-- each edge of the graph of an assignment is part of a walk to TERMINAL
onward : (h : Assignment) → IsTyped h → (u v : ℕ) → (G h).edge u v ≡ true → (ys : List ℕ) × Walk (G h) v ys 1
onward h typed u v e =
    let o = edge-In u v h e in
    after-pair (G h) u v 0 (ids_of o.0 ++ 1 ∷ []) 1 (follows h typed o.0 o.1).0.1 o.2

-- what is at a place of a list is there in a longer one
at-front : (xs ys : List ℕ) (i x : ℕ) → At xs i x → At (xs ++ ys) i x
at-front (y ∷ xs) ys zero x at = at
at-front (y ∷ xs) ys (suc i) x at = at-front xs ys i x at
at-front [] ys i x at = absurd at

-- what never follows in a word does not in its beginning
front-never : (a : ℕ) (xs ys : List ℕ) → NeverFollowedBy a a (xs ++ ys) → NeverFollowedBy a a xs
front-never a xs ys never i first j later second = never i (at-front xs ys i a first) j later (at-front xs ys j a second)

-- one type alone does not follow itself
alone-never : (a x : ℕ) → NeverFollowedBy a a (x ∷ [])
alone-never a x zero first zero later second = absurd (omega (arith, later))
alone-never a x zero first (suc j) later second = second
alone-never a x (suc i) first j later second = first

-- a type that no path has twice, no walk has twice
walk-once : (h : Assignment) → IsTyped h → (a : ℕ) → Satisfies (G h) (invariant NF a a) → (walk : List ℕ) (p : ℕ) → Walk (G h) 0 walk p → NeverFollowedBy a a (word (G h) (0 ∷ walk))
walk-once h typed a once [] p w = alone-never a ((G h).typ 0)
walk-once h typed a once (x ∷ walk) p w =
    let e = last-edge (G h) 0 x walk p w in
    let more = onward h typed e.0 p e.1 in
    let whole : IsPath (G h) (0 ∷ (x ∷ walk) ++ more.0) = (refl, walk-on (G h) 0 (x ∷ walk) p more.0 1 w more.1) in
    front-never a (word (G h) (0 ∷ x ∷ walk)) (map (G h).typ more.0)
    (subst (λ (ws : List ℕ). NeverFollowedBy a a ws) (map-append (G h).typ (0 ∷ x ∷ walk) more.0) (once (0 ∷ (x ∷ walk) ++ more.0) whole))

-- so flags of paths are flags of walks
pub once-on-walks : (h : Assignment) (once : List Bool) → IsTyped h → AreMetOnce (G h) once → AreMetOnceOnWalks (G h) once
once-on-walks h once typed met a flag walk p w = walk-once h typed a ((met a (flag-within once a flag)).0 flag) walk p w

-- the states of the two are the same
same-states : (g : Graph) (a b p s : ℕ) → ((walk : List ℕ) (q : ℕ) → Walk g 0 walk q → NeverFollowedBy a a (word g (0 ∷ walk))) → Reached (invariant AF a b) g p s ↔ Reached (invariant IB a b) g p s
same-states g a b p s once = (
  λ r. (r.0, r.1, sym (run-once a b (word g (0 ∷ r.0)) (once r.0 p r.1)) ∙ r.2),
  λ r. (r.0, r.1, run-once a b (word g (0 ∷ r.0)) (once r.0 p r.1) ∙ r.2),
)

-- so the labels of the one that is found are those of the invariant
pub labels-of-found : (once : List Bool) (found inv : Invariant) (h : Assignment) (partitions : List Partition) (labels : List ℕ) → HasLabelsOf once found inv → AreMetOnceOnWalks (G h) once
    → AreReached found h partitions labels → AreReached inv h partitions labels
labels-of-found once found inv h partitions labels (inl same) met reached = subst (λ (i : Invariant). AreReached i h partitions labels) same reached
labels-of-found once found inv h partitions labels (inr alike) met reached =
    let parts : (for_gaps inv.kind ≡ true) × (get_or once inv.a false ≡ true) = and_parts (for_gaps inv.kind) (get_or once inv.a false) alike.1 in
    let gap : inv.kind ≡ IB = gap-kind inv.kind parts.0 in
    let is : AreReached (invariant AF inv.a inv.b) h partitions labels = subst (λ (i : Invariant). AreReached i h partitions labels) alike.0 reached in
    subst (λ (k : Kind). AreReached (invariant k inv.a inv.b) h partitions labels) (sym gap) (record {
      count = is.count;
      each = is.each;
      states = λ p s live low.
          let one = is.states p s live low in
          let two = same-states (G h) inv.a inv.b p s (λ walk q w. met inv.a parts.1 walk q w) in
          (λ x. two.0 (one.0 x), λ x. one.1 (two.1 x));
    })

-- what is at a place of a list's beginning is there in the list
take-from : {X : Type 0} (n : ℕ) (xs : List X) (k : ℕ) (x : X) → slice_get (take n xs) k ≡ Some x → slice_get xs k ≡ Some x
take-from zero xs k x at = absurd (none-some x at)
take-from (suc n) [] k x at = at
take-from (suc n) (y ∷ xs) zero x at = at
take-from (suc n) (y ∷ xs) (suc k) x at = take-from n xs k x at

-- and that place is before its end
take-within : {X : Type 0} (n : ℕ) (xs : List X) (k : ℕ) (x : X) → slice_get (take n xs) k ≡ Some x → k < n
take-within zero xs k x at = absurd (none-some x at)
take-within (suc n) [] k x at = absurd (none-some x at)
take-within (suc n) (y ∷ xs) zero x at = omega arith
take-within (suc n) (y ∷ xs) (suc k) x at = omega (arith, take-within n xs k x at)

-- and the other way round
take-at : {X : Type 0} (n : ℕ) (xs : List X) (k : ℕ) (x : X) → k < n → slice_get xs k ≡ Some x → slice_get (take n xs) k ≡ Some x
take-at zero xs k x low at = absurd (omega (arith, low))
take-at (suc n) [] k x low at = at
take-at (suc n) (y ∷ xs) zero x low at = at
take-at (suc n) (y ∷ xs) (suc k) x low at = take-at n xs k x (omega (arith, low)) at

-- what was found among some is found among more
pub covers-kept : (once : List Bool) (invs asked more : List Invariant) (numbers : List ℕ) → Covers once invs asked numbers → Covers once invs (asked ++ more) numbers
covers-kept once invs asked more numbers covers k inv at =
    let found = covers k inv at in
    (found.0, slice_get_kept asked more (get_or numbers k 0) found.0 found.1, found.2)

-- one invariant more
pub covers-more : (once : List Bool) (invs asked : List Invariant) (numbers longer : List ℕ) (n number : ℕ) (inv found : Invariant) → length numbers ≡ n → n < length invs → slice_get invs n ≡ Some inv
    → slice_get asked number ≡ Some found → HasLabelsOf once found inv → longer ≡ numbers ++ number ∷ [] → Covers once (take n invs) asked numbers → Covers once (take (n + 1) invs) asked longer
covers-more once invs asked numbers longer n number inv found long low at there has grown covers k other place =
    let whole : slice_get invs k ≡ Some other = take-from (n + 1) invs k other place in
    let within : k < n + 1 = take-within (n + 1) invs k other place in
    elim (cases_lt k n) [
      | inl l ↦
          let old = covers k other (take-at n invs k other l whole) in
          let same : get_or longer k 0 ≡ get_or numbers k 0 = ap (λ (ns : List ℕ). get_or ns k 0) grown ∙ get_or_append_left numbers (number ∷ []) 0 k (omega (arith, l, long)) in
          (old.0, ap (λ (m : ℕ). slice_get asked m) same ∙ old.1, old.2)
      | inr l ↦
          let here : k ≡ n = omega (arith, l, within) in
          let same : inv ≡ other = same_Some inv other (sym at ∙ (ap (λ (m : ℕ). slice_get invs m) (sym here) ∙ whole)) in
          let last : get_or longer k 0 ≡ number = ap (λ (ns : List ℕ). get_or ns k 0) grown ∙ (ap (λ (m : ℕ). get_or (numbers ++ number ∷ []) m 0) here ∙ get_or-append_right numbers (number ∷ []) n n 0 long (omega arith) ∙ ap (λ (m : ℕ). get_or (number ∷ []) m 0) (let z : n - n ≡ 0 = omega arith in z)) in
          (found, ap (λ (m : ℕ). slice_get asked m) last ∙ there, subst (λ (i : Invariant). HasLabelsOf once found i) same has)
    ]

-- one named invariant more
pub named-more : (asked : List Invariant) (inv : Invariant) → AreNamed asked → (inv.a ≤ LAST_TYPE) × (inv.b ≤ LAST_TYPE) → AreNamed (asked ++ inv ∷ [])
named-more [] inv old this zero other at = subst (λ (i : Invariant). (i.a ≤ LAST_TYPE) × (i.b ≤ LAST_TYPE)) (same_Some inv other at) this
named-more [] inv old this (suc k) other at = absurd (none-some other at)
named-more (x ∷ asked) inv old this zero other at = old zero other at
named-more (x ∷ asked) inv old this (suc k) other at = named-more asked inv (λ j i there. old (suc j) i there) this k other at
