-- Each invariant has a state that a violation never has at some id.
use Rattle.std.proofs.Common.{◌≡◌, ◌⊎◌, ℕ, zero, suc, ◌+◌, ◌*◌, ◌-◌, ◌<◌, ◌≤◌, ◌==◌, ◌&&◌, not, nat_lt, Bool, true, false, cond, List, [], ◌∷◌, filter, length, drop, slice_index, sym, ◌∙◌, refl, ap, inl, inr, arith, eq-eqb, ne_eqb, eqb-true}
use Rattle.std.proofs.lemmas.Bool.{cases_eq, cases_lt, cases_Bool}
use Rattle.std.specs.List.{range_with_len}
use Rattle.invariants.specs.Candidates.{invariant}
use Rattle.invariants.specs.declared.Invariant.{Invariant}
use Rattle.invariants.specs.declared.Kind.{Kind}
use Rattle.invariants.specs.declared.Kind.TheVariants.{AF, NF, AP, IB}
use Rattle.invariants.specs.Monitors.{step_of, run_of, step, run, is_bad}
use Rattle.invariants.proofs.Agree.{monitor_agrees}
use Rattle.partition_model.specs.Graphs.{Graph, Walk, word, IsLeastViolation, IsFormed}
use Rattle.partition_model.specs.Listings.{ids_below}
use Rattle.partition_model.proofs.Lists.{In}
use Rattle.partition_model.proofs.Listing.{In-Contains, Contains-In, filter-In, range-In}
use Rattle.partition_bounds.specs.Laws.{LeastIsShorter, LeastWithinLimit}
use Rattle.partition_bounds.proofs.Pairing.{range-count}
use Rattle.partition_bounds.proofs.Short.{state_at, step-small, state-small, run-rest, stations, inner_ids, stations-count, station-In, station-at, without-one, inner-count, inner-at, NoCut, no-cut, walk-within, walk-short, least_is_short}

-- nothing is true together with false
and-false : (t : Bool) → (t && false) ≡ false
and-false true = refl
and-false false = refl

-- one of two numbers below a bound is below it
cond-below : (t : Bool) (m n k : ℕ) → m < k → n < k → cond t m n < k
cond-below true m n k h l = h
cond-below false m n k h l = l

-- one of two numbers from a bound on is from it on
cond-above : (t : Bool) (m n k : ℕ) → k ≤ m → k ≤ n → k ≤ cond t m n
cond-above true m n k h l = h
cond-above false m n k h l = l

-- a step of AF leads from the states 0 and 1 to one of them
af-step : (a b s x : ℕ) → s < 2 → step_of AF a b s x < 2
af-step a b s x l = cond-below (x == a) 1 (cond (x == b) 0 s) 2 (omega arith) (cond-below (x == b) 0 s 2 (omega arith) l)

-- so a walk has these states alone
af-states : (a b : ℕ) (g : Graph) (s : ℕ) (xs : List ℕ) (k : ℕ) → s < 2 → state_at g (invariant AF a b) s xs k < 2
af-states a b g s [] k l = l
af-states a b g s (x ∷ xs) zero l = af-step a b s (g.typ x) l
af-states a b g s (x ∷ xs) (suc k) l = af-states a b g (step_of AF a b s (g.typ x)) xs k (af-step a b s (g.typ x) l)

-- a monitor of AP that has read its first type keeps its state
ap-step : (a b x : ℕ) → step_of AP a b 1 x ≡ 1
ap-step a b x = rw (and-false (x == b), and-false (x == a)) refl

-- so it does over a whole word
ap-run : (a b : ℕ) (w : List ℕ) → run_of AP a b 1 w ≡ 1
ap-run a b [] = refl
ap-run a b (x ∷ w) = ap (λ (s : ℕ). run_of AP a b s w) (ap-step a b x) ∙ ap-run a b w

-- from another state than 0, a step of NF does not lead to it
nf-step : (a b s x : ℕ) → 1 ≤ s → 1 ≤ step_of NF a b s x
nf-step a b s x l = cond-above (x == b && nat_lt 0 s) 2 (cond (x == a && s == 0) 1 s) 1 (omega arith) (cond-above (x == a && s == 0) 1 s 1 (omega arith) l)

-- so a walk from another state than 0 never comes to it
nf-states : (a b : ℕ) (g : Graph) (s : ℕ) (xs : List ℕ) (k : ℕ) → 1 ≤ s → 1 ≤ state_at g (invariant NF a b) s xs k
nf-states a b g s [] k l = l
nf-states a b g s (x ∷ xs) zero l = nf-step a b s (g.typ x) l
nf-states a b g s (x ∷ xs) (suc k) l = nf-states a b g (step_of NF a b s (g.typ x)) xs k (nf-step a b s (g.typ x) l)

-- from the state 0, the first type leads to the state 1
nf-first : (a b x : ℕ) → x ≡ a → step_of NF a b 0 x ≡ 1
nf-first a b x e = rw (and-false (x == b), eq-eqb x a e) refl

-- from the state 0, any other type leads back to it
nf-other : (a b x : ℕ) → (x ≡ a → ⊥) → step_of NF a b 0 x ≡ 0
nf-other a b x n = rw (and-false (x == b), ne_eqb x a n) refl

-- after the first type the state is not 0
nf-reads : (a b s x : ℕ) → x ≡ a → 1 ≤ step_of NF a b s x
nf-reads a b zero x e = let f : step_of NF a b 0 x ≡ 1 = nf-first a b x e in omega arith
nf-reads a b (suc s) x e = nf-step a b (suc s) x (omega arith)

-- so it is at each id of this type on a walk
nf-at : (a b : ℕ) (g : Graph) (s : ℕ) (xs : List ℕ) (k : ℕ) → k < length xs → g.typ (slice_index xs k) ≡ a → 1 ≤ state_at g (invariant NF a b) s xs k
nf-at a b g s [] k l e = absurd (omega arith)
nf-at a b g s (x ∷ xs) zero l e = nf-reads a b s (g.typ x) e
nf-at a b g s (x ∷ xs) (suc k) l e = nf-at a b g (step_of NF a b s (g.typ x)) xs k (omega arith) e

-- a word that ends badly has the first type before its last
nf-finds : (a b : ℕ) (g : Graph) (xs : List ℕ) → run_of NF a b 0 (word g xs) ≡ 2 → (k : ℕ) × (suc k < length xs) × (g.typ (slice_index xs k) ≡ a)
nf-finds a b g [] e = absurd (omega arith)
nf-finds a b g (x ∷ []) e =
    elim (cases_eq (g.typ x) a) [
      | inl q ↦ absurd (let f : step_of NF a b 0 (g.typ x) ≡ 1 = nf-first a b (g.typ x) q in omega arith)
      | inr n ↦ absurd (let f : step_of NF a b 0 (g.typ x) ≡ 0 = nf-other a b (g.typ x) n in omega arith)
    ]
nf-finds a b g (x ∷ y ∷ xs) e =
    elim (cases_eq (g.typ x) a) [
      | inl q ↦ (0, omega arith, q)
      | inr n ↦
          let f : step_of NF a b 0 (g.typ x) ≡ 0 = nf-other a b (g.typ x) n in
          let e2 : run_of NF a b 0 (word g (y ∷ xs)) ≡ 2 = sym (ap (λ (s : ℕ). run_of NF a b s (word g (y ∷ xs))) f) ∙ e in
          let o : (k : ℕ) × (suc k < length (y ∷ xs)) × (g.typ (slice_index (y ∷ xs) k) ≡ a) = nf-finds a b g (y ∷ xs) e2 in
          (suc o.0, (let l : suc o.0 < length (y ∷ xs) = o.1 in omega arith), o.2)
    ]

-- from the states 0 and 1, any type but the first leads to one of them
ib-other : (a b s x : ℕ) → (x ≡ a → ⊥) → s < 2 → step_of IB a b s x < 2
ib-other a b s x n l = rw (ne_eqb x a n) (cond-below (x == b && s == 1) 0 s 2 (omega arith) l)

-- from the state 0, each type does
ib-start : (a b x : ℕ) → step_of IB a b 0 x < 2
ib-start a b x = rw (and-false (x == a)) (cond-below (x == a && true) 1 (cond (x == b && false) 0 0) 2 (omega arith) (cond-below (x == b && false) 0 0 2 (omega arith) (omega arith)))

-- after the first type the state is not 0
ib-reads : (a b s x : ℕ) → x ≡ a → 1 ≤ step_of IB a b s x
ib-reads a b zero x e = rw (eq-eqb x a e) (omega arith)
ib-reads a b (suc zero) x e = rw (eq-eqb x a e) (omega arith)
ib-reads a b (suc (suc s)) x e =
    rw (ne_eqb (suc (suc s)) 1 (λ q. absurd (omega arith)), and-false (x == a), and-false (x == b)) (cond-above (x == a && suc (suc s) == 0) 1 (suc (suc s)) 1 (omega arith) (omega arith))

-- so it is at each id of this type on a walk
ib-at : (a b : ℕ) (g : Graph) (s : ℕ) (xs : List ℕ) (k : ℕ) → k < length xs → g.typ (slice_index xs k) ≡ a → 1 ≤ state_at g (invariant IB a b) s xs k
ib-at a b g s [] k l e = absurd (omega arith)
ib-at a b g s (x ∷ xs) zero l e = ib-reads a b s (g.typ x) e
ib-at a b g s (x ∷ xs) (suc k) l e = ib-at a b g (step_of IB a b s (g.typ x)) xs k (omega arith) e

-- the first type is read before the end of the walk
abbrev FirstWithin : ℕ → Graph → List ℕ → Type 0
FirstWithin a g xs = (k : ℕ) × (suc k < length xs) × (g.typ (slice_index xs k) ≡ a)

-- the states before the end of the walk are 0 and 1
abbrev StaysLow : ℕ → ℕ → Graph → ℕ → List ℕ → Type 0
StaysLow a b g s xs = (k : ℕ) → suc k < length xs → state_at g (invariant IB a b) s xs k < 2

-- after an id of another type the states stay so where they do on the rest
ib-low : (a b : ℕ) (g : Graph) (s x : ℕ) (xs : List ℕ) → step_of IB a b s (g.typ x) < 2 → StaysLow a b g (step_of IB a b s (g.typ x)) xs → StaysLow a b g s (x ∷ xs)
ib-low a b g s x xs c f zero l = c
ib-low a b g s x xs c f (suc k) l = f k (omega arith)

-- a walk reads the first type before its end, or its states stay 0 and 1
ib-finds : (a b : ℕ) (g : Graph) (s : ℕ) (xs : List ℕ) → s < 2 → FirstWithin a g xs ⊎ StaysLow a b g s xs
ib-finds a b g s [] l = inr (λ k h. absurd (omega arith))
ib-finds a b g s (x ∷ []) l = inr (λ k h. absurd (omega arith))
ib-finds a b g s (x ∷ y ∷ xs) l =
    elim (cases_eq (g.typ x) a) [
      | inl q ↦ inl (0, omega arith, q)
      | inr n ↦
          let c : step_of IB a b s (g.typ x) < 2 = ib-other a b s (g.typ x) n l in
          elim (ib-finds a b g (step_of IB a b s (g.typ x)) (y ∷ xs) c) [
            | inl o ↦ inl (suc o.0, (let h : suc o.0 < length (y ∷ xs) = o.1 in omega arith), o.2)
            | inr f ↦ inr (ib-low a b g s x (y ∷ xs) c f)
          ]
    ]

-- an id and a state at which the walk never is but at its end
record IsFree (g : Graph) (inv : Invariant) (s : ℕ) (xs ids : List ℕ) (p t : ℕ) : Type 0 where
  inner : In p (inner_ids ids)
  small : t < 3
  never : (k : ℕ) → suc k < length xs → slice_index xs k ≡ p → state_at g inv s xs k ≡ t → ⊥

-- there is such an id with such a state
abbrev SomeFree : Graph → Invariant → ℕ → List ℕ → List ℕ → Type 0
SomeFree g inv s xs ids = (p t : ℕ) × IsFree g inv s xs ids p t

-- where an id is no end, a walk that ends badly has such an id with such a state
free-of : (kind : Kind) (a b : ℕ) (g : Graph) (x : ℕ) (xs ids : List ℕ) (p : ℕ) → IsFormed g → ((u : ℕ) → g.listed u ≡ true → In u ids) → Walk g x xs 1
    → is_bad (invariant kind a b) (run (invariant kind a b) 0 (word g (x ∷ xs))) ≡ true → In p (inner_ids ids) → SomeFree g (invariant kind a b) (step (invariant kind a b) 0 (g.typ x)) xs ids
free-of AF a b g x xs ids p f all w bad i = (
  p,
  2,
  record { inner = i; small = omega arith; never = λ k l e q. (let c : state_at g (invariant AF a b) (step_of AF a b 0 (g.typ x)) xs k < 2 = af-states a b g (step_of AF a b 0 (g.typ x)) xs k (af-step a b 0 (g.typ x) (omega arith)) in omega arith) },
)
free-of AP a b g x xs ids p f all w bad i = (
  p,
  1,
  record {
    inner = i;
    small = omega arith;
    never = λ k l e q.
        let r : run_of AP a b (step_of AP a b 0 (g.typ x)) (word g xs) ≡ run_of AP a b (state_at g (invariant AP a b) (step_of AP a b 0 (g.typ x)) xs k) (word g (drop (suc k) xs)) =
        run-rest g (invariant AP a b) (step_of AP a b 0 (g.typ x)) xs k (omega arith) in
        let z : run_of AP a b (state_at g (invariant AP a b) (step_of AP a b 0 (g.typ x)) xs k) (word g (drop (suc k) xs)) ≡ 1 =
        ap (λ (s : ℕ). run_of AP a b s (word g (drop (suc k) xs))) q ∙ ap-run a b (word g (drop (suc k) xs)) in
        let y : run_of AP a b 0 (word g (x ∷ xs)) ≡ 2 = eqb-true (run_of AP a b 0 (word g (x ∷ xs))) 2 bad in
        let v : run_of AP a b (step_of AP a b 0 (g.typ x)) (word g xs) ≡ 2 = y in
        let one_two : 1 ≡ 2 = sym z ∙ sym r ∙ v in
        omega arith;
  },
)
free-of NF a b g x xs ids p f all w bad i =
    elim (cases_lt 0 (step_of NF a b 0 (g.typ x))) [
      | inl l ↦ (p, 0, record { inner = i; small = omega arith; never = λ k n e q. (let c : 1 ≤ state_at g (invariant NF a b) (step_of NF a b 0 (g.typ x)) xs k = nf-states a b g (step_of NF a b 0 (g.typ x)) xs k (omega arith) in omega arith) })
      | inr l ↦
          let z : step_of NF a b 0 (g.typ x) ≡ 0 = omega arith in
          let y : run_of NF a b 0 (word g (x ∷ xs)) ≡ 2 = eqb-true (run_of NF a b 0 (word g (x ∷ xs))) 2 bad in
          let v : run_of NF a b (step_of NF a b 0 (g.typ x)) (word g xs) ≡ 2 = y in
          let u : run_of NF a b 0 (word g xs) ≡ 2 = sym (ap (λ (s : ℕ). run_of NF a b s (word g xs)) z) ∙ v in
          let o : (k : ℕ) × (suc k < length xs) × (g.typ (slice_index xs k) ≡ a) = nf-finds a b g xs u in (
            slice_index xs o.0,
            0,
            record {
              inner = inner-at g x xs ids o.0 f all w o.1;
              small = omega arith;
              never = λ k n e q.
                  (let c : 1 ≤ state_at g (invariant NF a b) (step_of NF a b 0 (g.typ x)) xs k = nf-at a b g (step_of NF a b 0 (g.typ x)) xs k (omega arith) (ap g.typ e ∙ o.2) in omega arith);
            },
          )
    ]
free-of IB a b g x xs ids p f all w bad i =
    elim (ib-finds a b g (step_of IB a b 0 (g.typ x)) xs (ib-start a b (g.typ x))) [
      | inl o ↦ (
        slice_index xs o.0,
        0,
        record {
          inner = inner-at g x xs ids o.0 f all w o.1;
          small = omega arith;
          never = λ k n e q.
              (let c : 1 ≤ state_at g (invariant IB a b) (step_of IB a b 0 (g.typ x)) xs k = ib-at a b g (step_of IB a b 0 (g.typ x)) xs k (omega arith) (ap g.typ e ∙ o.2) in omega arith);
        },
      )
      | inr l ↦ (
        p,
        2,
        record { inner = i; small = omega arith; never = λ k n e q. (let c : state_at g (invariant IB a b) (step_of IB a b 0 (g.typ x)) xs k < 2 = l k n in omega arith) },
      )
    ]

-- with such an id and state, a walk is at most three times as long as there are ids that are no ends
walk-shorter : (g : Graph) (inv : Invariant) (p s : ℕ) (xs ids : List ℕ) → IsFormed g → ((u : ℕ) → g.listed u ≡ true → In u ids) → s < 3 → Walk g p xs 1 → NoCut g inv p s xs
    → SomeFree g inv s xs ids → length xs ≤ 3 * length (inner_ids ids)
walk-shorter g inv p s xs ids f all sm w none o =
    let u : ℕ = 3 * o.0 + o.1 in
    let c : length (stations (inner_ids ids)) ≡ 3 * length (inner_ids ids) = stations-count (inner_ids ids) in
    let e : ((3 * o.0 + o.1) == (3 * o.0 + o.1)) ≡ true = eq-eqb (3 * o.0 + o.1) (3 * o.0 + o.1) refl in
    let d : not ((3 * o.0 + o.1) == (3 * o.0 + o.1)) ≡ false = ap not e in
    let m : suc (length (filter (λ y. not (y == (3 * o.0 + o.1))) (stations (inner_ids ids)))) ≤ length (stations (inner_ids ids)) =
    without-one (λ y. not (y == (3 * o.0 + o.1))) (3 * o.0 + o.1) (stations (inner_ids ids)) (station-In o.0 o.1 (inner_ids ids) o.2.inner o.2.small) d in
    let n : length xs - 1 ≤ length (filter (λ y. not (y == (3 * o.0 + o.1))) (stations (inner_ids ids))) =
    walk-within g inv p s xs (filter (λ y. not (y == (3 * o.0 + o.1))) (stations (inner_ids ids))) sm w none (λ k l.
    filter-In (λ y. not (y == (3 * o.0 + o.1))) (3 * slice_index xs k + state_at g inv s xs k) (stations (inner_ids ids)) (station-at g inv p s xs ids f all sm w k l) (other k l)) in
    omega arith
  where
    other : (k : ℕ) → suc k < length xs → not ((3 * slice_index xs k + state_at g inv s xs k) == (3 * o.0 + o.1)) ≡ true
    other k l =
        let small_k : state_at g inv s xs k < 3 = state-small g inv s xs k sm in
        let small_o : o.1 < 3 = o.2.small in
        ap not (ne_eqb (3 * slice_index xs k + state_at g inv s xs k) (3 * o.0 + o.1) (λ q. o.2.never k l (omega arith) (omega arith)))

-- a list has an element or is empty
some-or-none : (xs : List ℕ) → ((p : ℕ) × In p xs) ⊎ (length xs ≡ 0)
some-or-none [] = inr refl
some-or-none (x ∷ xs) = inl (x, inl refl)

-- a violation ends in the bad state
ends-bad : (g : Graph) (inv : Invariant) (x : ℕ) (xs : List ℕ) → IsLeastViolation g inv (x ∷ xs) → is_bad inv (run inv 0 (word g (x ∷ xs))) ≡ true
ends-bad g inv x xs v =
    elim (cases_Bool (is_bad inv (run inv 0 (word g (x ∷ xs))))) [
      | inl t ↦ t
      | inr n ↦ absurd (v.breaks.1 ((monitor_agrees inv (word g (x ∷ xs))).0 n))
    ]

-- a least violation has one id less where there are ids beside the ends
pub least_is_shorter : LeastIsShorter
least_is_shorter g inv [] ids f all three v = absurd v.breaks.0
least_is_shorter g inv (x ∷ xs) ids f all three v =
    let mem : (u : ℕ) → g.listed u ≡ true → In u ids = λ u l. In-Contains ids u (all u l) in
    let i : length (inner_ids ids) + 2 ≤ length ids = inner-count ids (mem 0 f.start_listed) (mem 1 f.end_listed) in
    let sm : step inv 0 (g.typ x) < 3 = step-small inv 0 (g.typ x) (omega arith) in
    elim (some-or-none (inner_ids ids)) [
      | inl o ↦
          let fr : SomeFree g inv (step inv 0 (g.typ x)) xs ids = free-of inv.kind inv.a inv.b g x xs ids o.0 f mem v.breaks.0.1 (ends-bad g inv x xs v) o.1 in
          let w : length xs ≤ 3 * length (inner_ids ids) = walk-shorter g inv x (step inv 0 (g.typ x)) xs ids f mem sm v.breaks.0.1 (no-cut g inv x xs v) fr in
          omega arith
      | inr n ↦
          let w : length xs ≤ 3 * length (inner_ids ids) + 1 = walk-short g inv x (step inv 0 (g.typ x)) xs ids f mem sm v.breaks.0.1 (no-cut g inv x xs v) in
          omega arith
    ]

-- so it has at most so many ids where there are no more than may be
pub least_within_limit : LeastWithinLimit
least_within_limit g inv path n f below few v =
    let c : length (range_with_len 0 n) ≡ n = range-count 0 n in
    let s : length path + 4 ≤ 3 * length (ids_below n) = least_is_short g inv path (ids_below n) f (λ p l. Contains-In p (ids_below n) (range-In 0 n p (omega arith) (let b : p < n = below p l in omega arith))) v in
    elim (cases_lt n 3) [
      | inl l ↦ omega arith
      | inr l ↦
          let t : length path + 5 ≤ 3 * length (ids_below n) =
          least_is_shorter g inv path (ids_below n) f (λ p l. Contains-In p (ids_below n) (range-In 0 n p (omega arith) (let b : p < n = below p l in omega arith))) (omega arith) v in
          omega arith
    ]
