-- From a table in which the walks are known to the least walk.
use Rattle.std.proofs.Common.{◌≡◌, ℕ, suc, ◌<◌, ◌≤◌, true, false, List, [], ◌∷◌, ◌++◌, length, sym, ◌∙◌, refl, ap, subst, inl, inr, arith, append_assoc, append-nil}
use Rattle.std.proofs.lemmas.Bool.{cases_lt, cases_Bool}
use Rattle.invariants.specs.Holds.{Holds}
use Rattle.invariants.specs.Monitors.{run, is_bad}
use Rattle.invariants.proofs.Agree.{monitor_agrees}
use Rattle.partition_graph.specs.Parts.{HasEdgesBelow}
use Rattle.partition_model.specs.Graphs.{Walk, word, IsBefore, Breaks, Satisfies, IsLeastViolation}
use Rattle.path_finder.specs.declared.table.TheConstants.{OPEN}
use Rattle.path_finder.specs.declared.pair.Pair.{Pair}
use Rattle.path_finder.specs.Walks.{Asked, state_at, IsPairOf, Leads, EndsBadly, Finishes, IsLeastWalk}
use Rattle.path_finder.specs.Tables.{Entries, at, IsMeasured, IsKnown, IsNextPair}
use Rattle.path_finder.proofs.Entering.{ends_before}
use Rattle.path_finder.proofs.Measuring.{pair_after, after_is_pair, leads_after}

-- the pair to which an edge leads is told by its id
pub same_after : (a : Asked) (p r : Pair) → Leads a p r → r ≡ pair_after a p r.id
same_after a p r l = ap (λ (s : ℕ). let x : Pair = record { id = r.id; state = s } in x) (sym l.step)

-- a walk that ends badly goes on badly behind its first edge
pub ends_after : (a : Asked) (p : Pair) (q : ℕ) (xs : List ℕ) → EndsBadly a p (q ∷ xs) → (a.graph.edge p.id q ≡ true) × EndsBadly a (pair_after a p q) xs
ends_after a p q xs b = (b.walk.0, record { walk = b.walk.1; bad = b.bad })

-- where the walks shorter than a bound are known, so are those shorter than a lower one
pub known_below : (a : Asked) (high low : ℕ) (e : Entries) → low ≤ high → IsKnown a high e → IsKnown a low e
known_below a high low e l k = record { size = k.size; sound = k.sound; whole = λ r n p m f. k.whole r n p (omega arith) f }

-- where the search has ended, the walks shorter than that of the start are known
pub measured_known : (a : Asked) (start : Pair) (e : Entries) → IsMeasured a start e → IsKnown a (at e start) e
measured_known a start e m = record { size = m.size; sound = m.sound; whole = λ r n p l f. m.whole r n p (λ h. l) f }

-- a step forwards is at most one less
pub one_less : (a : Asked) (e : Entries) (p q : Pair) (d : ℕ) → IsKnown a (suc d) e → IsPairOf a p → IsPairOf a q → Leads a p q → at e p ≡ suc d → at e q < OPEN → d ≤ at e q
one_less a e p q d k pp qp l v m =
    elim (cases_lt (at e q) d) [
      | inl lt ↦ absurd (
          let f : Finishes a q (at e q) = k.sound q qp m in
          let h : (at e p ≤ suc (at e q)) × (at e p < OPEN) = k.whole p (suc (at e q)) pp (omega arith) (q.id ∷ f.0, ap suc f.1, ends_before a p q f.0 l f.2) in
          let x : at e p ≤ suc (at e q) = h.0 in
          omega arith
          )
      | inr ge ↦ ge
    ]

-- what follows a pair on a walk as short as its distance is one nearer
pub next_value : (a : Asked) (e : Entries) (p : Pair) (d q : ℕ) (xs : List ℕ) → HasEdgesBelow a.graph a.ids → IsKnown a (suc d) e → IsPairOf a p → at e p ≡ suc d → length xs ≡ d → EndsBadly a p (q ∷ xs)
    → at e (pair_after a p q) ≡ d
next_value a e p d q xs w k pp v l b =
    let t : (a.graph.edge p.id q ≡ true) × EndsBadly a (pair_after a p q) xs = ends_after a p q xs b in
    let qp : IsPairOf a (pair_after a p q) = after_is_pair a p q w pp t.0 in
    let h : (at e (pair_after a p q) ≤ d) × (at e (pair_after a p q) < OPEN) = k.whole (pair_after a p q) d qp (omega arith) (xs, l, t.1) in
    let low : d ≤ at e (pair_after a p q) = one_less a e p (pair_after a p q) d k pp qp (leads_after a p q t.0) v h.1 in
    let up : at e (pair_after a p q) ≤ d = h.0 in
    omega arith

-- a pair that is not at the end leads to one whose distance is one less
pub has_next : (a : Asked) (e : Entries) (p : Pair) (d : ℕ) → HasEdgesBelow a.graph a.ids → IsKnown a (suc d) e → IsPairOf a p → at e p ≡ suc d → suc d < OPEN
    → (q : Pair) × (q.id < a.ids) × Leads a p q × (at e q ≡ d)
has_next a e p d w k pp v l = from f.0 (f.1 ∙ v) f.2
  where
    f : Finishes a p (at e p)
    f = k.sound p pp (omega arith)

    from : (xs : List ℕ) → length xs ≡ suc d → EndsBadly a p xs → (q : Pair) × (q.id < a.ids) × Leads a p q × (at e q ≡ d)
    from [] n b = absurd (omega arith)
    from (q ∷ xs) n b = (pair_after a p q, (w p.id q b.walk.0).1, leads_after a p q b.walk.0, next_value a e p d q xs w k pp v (omega arith) b)

-- at the distance 0 the least walk has no edge
pub least_nil : (a : Asked) (e : Entries) (p : Pair) → IsKnown a 0 e → IsPairOf a p → at e p ≡ 0 → IsLeastWalk a p []
least_nil a e p k pp v = from f.0 (f.1 ∙ v) f.2
  where
    f : Finishes a p (at e p)
    f = k.sound p pp (omega arith)

    none : (ys : List ℕ) → IsBefore ys [] → ⊥
    none [] b = b
    none (y ∷ ys) b = b

    from : (xs : List ℕ) → length xs ≡ 0 → EndsBadly a p xs → IsLeastWalk a p []
    from [] n b = record { ends = b; shortest = λ ys c. omega arith; first = λ ys c l o. none ys o }
    from (x ∷ xs) n b = absurd (omega arith)

-- the least walk goes on along the least id whose distance is one less
pub least_cons : (a : Asked) (e : Entries) (p q : Pair) (d : ℕ) (xs : List ℕ) → HasEdgesBelow a.graph a.ids → IsKnown a (suc d) e → IsPairOf a p → IsPairOf a q → at e p ≡ suc d → suc d < OPEN
    → IsNextPair a e p d q → IsLeastWalk a q xs → IsLeastWalk a p (q.id ∷ xs)
least_cons a e p q d xs w k pp qp v l nx lw =
    let u : at e q ≡ d = nx.value in
    let f : Finishes a q (at e q) = k.sound q qp (omega arith) in
    let up : length xs ≤ length f.0 = lw.shortest f.0 f.2 in
    let fl : length f.0 ≡ at e q = f.1 in
    let dn : (at e q ≤ length xs) × (at e q < OPEN) = k.whole q (length xs) qp (omega arith) (xs, refl, lw.ends) in
    let dl : at e q ≤ length xs = dn.0 in
    let n : length xs ≡ d = omega arith in
    record {
      ends = ends_before a p q xs nx.leads lw.ends;
      shortest = λ ys b. shortest n ys b;
      first = λ ys b m o. first n ys b m o;
    }
  where
    shortest : length xs ≡ d → (ys : List ℕ) → EndsBadly a p ys → suc (length xs) ≤ length ys
    shortest n ys b = elim (cases_lt (length ys) (suc d)) [
      | inl lt ↦ absurd (
          let h : (at e p ≤ length ys) × (at e p < OPEN) = k.whole p (length ys) pp lt (ys, refl, b) in
          let x : at e p ≤ length ys = h.0 in
          omega arith
          )
      | inr ge ↦ omega arith
    ]

    first : length xs ≡ d → (ys : List ℕ) → EndsBadly a p ys → length ys ≡ suc (length xs) → IsBefore ys (q.id ∷ xs) → ⊥
    first n [] b m o = o
    first n (r ∷ ys) b m (inl lt) =
        nx.first (pair_after a p r) lt (leads_after a p r b.walk.0) (next_value a e p d r ys w k pp v (omega arith) b)
    first n (r ∷ ys) b m (inr o) =
        let t : EndsBadly a (pair_after a p r) ys = (ends_after a p r ys b).1 in
        let s : pair_after a p r ≡ q = ap (λ (x : ℕ). pair_after a p x) o.0 ∙ sym (same_after a p q nx.leads) in
        lw.first ys (subst (λ (x : Pair). EndsBadly a x ys) s t) (omega arith) o.1

-- what was walked, followed by a least walk, is a least walk
abbrev pub IsLedTo : Asked → Pair → List ℕ → Pair → Type 0
IsLedTo a start front p = (ys : List ℕ) → IsLeastWalk a p ys → IsLeastWalk a start (front ++ ys)

-- one id more is walked
pub led_further : (a : Asked) (e : Entries) (start p q : Pair) (front : List ℕ) (d : ℕ) → HasEdgesBelow a.graph a.ids → IsKnown a (suc d) e → IsPairOf a p → IsPairOf a q → at e p ≡ suc d → suc d < OPEN
    → IsNextPair a e p d q → IsLedTo a start front p → IsLedTo a start (front ++ q.id ∷ []) q
led_further a e start p q front d w k pp qp v l nx led ys lw =
    subst (λ (z : List ℕ). IsLeastWalk a start z) (sym (append_assoc front (q.id ∷ []) ys)) (led (q.id ∷ ys) (least_cons a e p q d ys w k pp qp v l nx lw))

-- what was walked to the distance 0 is the least walk
pub led_to_end : (a : Asked) (e : Entries) (start p : Pair) (front : List ℕ) → IsKnown a 0 e → IsPairOf a p → at e p ≡ 0 → IsLedTo a start front p → IsLeastWalk a start front
led_to_end a e start p front k pp v led = subst (λ (z : List ℕ). IsLeastWalk a start z) (append-nil front) (led [] (least_nil a e p k pp v))

-- from the least walk to the least violation
pub violation_from : (a : Asked) (start : Pair) (xs : List ℕ) → start.id ≡ 0 → start.state ≡ state_at a 0 0 → IsLeastWalk a start xs → IsLeastViolation a.graph a.inv (0 ∷ xs)
violation_from a start xs z s lw =
    record {
      breaks = ((refl, subst (λ (x : ℕ). Walk a.graph x xs 1) z lw.ends.walk), λ h. breaks lw.ends.bad h);
      shortest = λ other b. shortest other b;
      first = λ other b l o. first other b l o;
    }
  where
    breaks : is_bad a.inv (run a.inv start.state (word a.graph xs)) ≡ true → Holds a.inv (word a.graph (0 ∷ xs)) → ⊥
    breaks b h =
        let f : is_bad a.inv (run a.inv (state_at a 0 0) (word a.graph xs)) ≡ false = (monitor_agrees a.inv (word a.graph (0 ∷ xs))).1 h in
        let t : is_bad a.inv (run a.inv (state_at a 0 0) (word a.graph xs)) ≡ true = subst (λ (x : ℕ). is_bad a.inv (run a.inv x (word a.graph xs)) ≡ true) s b in
        absurd (let x : true ≡ false = sym t ∙ f in cc)

    ends : (x : ℕ) (ys : List ℕ) → Breaks a.graph a.inv (x ∷ ys) → EndsBadly a start ys
    ends x ys b = record {
      walk = subst (λ (y : ℕ). Walk a.graph y ys 1) (b.0.0 ∙ sym z) b.0.1;
      bad = elim (cases_Bool (is_bad a.inv (run a.inv (state_at a 0 x) (word a.graph ys)))) [
        | inl t ↦ subst (λ (y : ℕ). is_bad a.inv (run a.inv y (word a.graph ys)) ≡ true) (ap (λ (y : ℕ). state_at a 0 y) b.0.0 ∙ sym s) t
        | inr f ↦ absurd (b.1 ((monitor_agrees a.inv (word a.graph (x ∷ ys))).0 f))
      ];
    }

    shortest : (other : List ℕ) → Breaks a.graph a.inv other → suc (length xs) ≤ length other
    shortest [] b = absurd b.0
    shortest (x ∷ ys) b = (let l : length xs ≤ length ys = lw.shortest ys (ends x ys b) in omega arith)

    first : (other : List ℕ) → Breaks a.graph a.inv other → length other ≡ suc (length xs) → IsBefore other (0 ∷ xs) → ⊥
    first [] b l o = absurd b.0
    first (x ∷ ys) b l (inl lt) = absurd (omega arith)
    first (x ∷ ys) b l (inr o) = lw.first ys (ends x ys b) (omega arith) o.1

-- where the start is open, the graph satisfies the invariant
pub satisfied_from : (a : Asked) (start : Pair) (e : Entries) → IsPairOf a start → start.id ≡ 0 → start.state ≡ state_at a 0 0 → IsMeasured a start e → at e start ≡ OPEN → Satisfies a.graph a.inv
satisfied_from a start e sp z s m o [] h = absurd h
satisfied_from a start e sp z s m o (x ∷ xs) h =
    elim (cases_Bool (is_bad a.inv (run a.inv (state_at a 0 x) (word a.graph xs)))) [
      | inl t ↦
          let b : EndsBadly a start xs = record {
            walk = subst (λ (y : ℕ). Walk a.graph y xs 1) (h.0 ∙ sym z) h.1;
            bad = subst (λ (y : ℕ). is_bad a.inv (run a.inv y (word a.graph xs)) ≡ true) (ap (λ (y : ℕ). state_at a 0 y) h.0 ∙ sym s) t;
          } in
          let f : (at e start ≤ length xs) × (at e start < OPEN) = m.whole start (length xs) sp (λ k. absurd (omega arith)) (xs, refl, b) in
          absurd (let k : at e start < OPEN = f.1 in omega arith)
      | inr f ↦ (monitor_agrees a.inv (word a.graph (x ∷ xs))).0 f
    ]
