-- In a least violation no id stands twice with one state of the monitor.
use Rattle.std.proofs.Common.{◌≡◌, ◌⊎◌, ℕ, ◌<◌, ◌≤◌, true, false, List, [], ◌∷◌, length, sym, ap, subst, inl, inr, arith}
use Rattle.invariants.specs.declared.Invariant.{Invariant}
use Rattle.invariants.specs.Monitors.{step, run, is_bad}
use Rattle.invariants.proofs.Agree.{monitor_agrees}
use Rattle.partition_model.specs.Graphs.{Graph, Walk, word, Breaks, IsLeastViolation}
use Rattle.partition_bounds.proofs.Short.{step-small}

-- no shorter walk to z leads the monitor to the same state there
abbrev pub IsShortest : Graph → Invariant → ℕ → ℕ → List ℕ → ℕ → Type 0
IsShortest g inv x s xs z = (ys : List ℕ) → Walk g x ys z → run inv s (word g ys) ≡ run inv s (word g xs) → length xs ≤ length ys

-- so it is for what follows the first id
pub shortest-rest : (g : Graph) (inv : Invariant) (x y s : ℕ) (xs : List ℕ) (z : ℕ) → g.edge x y ≡ true → IsShortest g inv x s (y ∷ xs) z → IsShortest g inv y (step inv s (g.typ y)) xs z
shortest-rest g inv x y s xs z e f ys w r = let l : length (y ∷ xs) ≤ length (y ∷ ys) = f (y ∷ ys) (e, w) r in omega arith

-- and for a least violation
pub least-shortest : (g : Graph) (inv : Invariant) (x : ℕ) (xs : List ℕ) → IsLeastViolation g inv (x ∷ xs) → IsShortest g inv x (step inv 0 (g.typ x)) xs 1
least-shortest g inv x xs v ys w r =
    let b : Breaks g inv (x ∷ ys) = (
      (v.breaks.0.0, w),
      λ h. v.breaks.1 ((monitor_agrees inv (word g (x ∷ xs))).0
          (subst (λ (z : ℕ). is_bad inv z ≡ false) r ((monitor_agrees inv (word g (x ∷ ys))).1 h))),
    ) in
    let l : length (x ∷ xs) ≤ length (x ∷ ys) = v.shortest (x ∷ ys) b in
    omega arith

-- the id p stands in the walk with the state t after it
abbrev pub IsVisit : Graph → Invariant → ℕ → ℕ → List ℕ → ℕ → Type 0
IsVisit g inv p s [] t = ⊥
IsVisit g inv p s (x ∷ xs) t = ((x ≡ p) × (step inv s (g.typ x) ≡ t)) ⊎ IsVisit g inv p (step inv s (g.typ x)) xs t

-- the state is one of the three
pub visit-small : (g : Graph) (inv : Invariant) (p s : ℕ) (xs : List ℕ) (t : ℕ) → s < 3 → IsVisit g inv p s xs t → t < 3
visit-small g inv p s [] t l i = absurd i
visit-small g inv p s (x ∷ xs) t l (inl e) = subst (λ (u : ℕ). u < 3) e.1 (step-small inv s (g.typ x) l)
visit-small g inv p s (x ∷ xs) t l (inr i) = visit-small g inv p (step inv s (g.typ x)) xs t (step-small inv s (g.typ x) l) i

-- the rest of the walk from there
visit-rest : (g : Graph) (inv : Invariant) (p x s : ℕ) (xs : List ℕ) (t z : ℕ) → Walk g x xs z → IsVisit g inv p s xs t
    → (ys : List ℕ) × (length ys < length xs) × Walk g p ys z × (run inv t (word g ys) ≡ run inv s (word g xs))
visit-rest g inv p x s [] t z w i = absurd i
visit-rest g inv p x s (y ∷ xs) t z w (inl e) = (
  xs,
  omega arith,
  subst (λ (u : ℕ). Walk g u xs z) e.0 w.1,
  ap (λ (u : ℕ). run inv u (word g xs)) (sym e.1),
)
visit-rest g inv p x s (y ∷ xs) t z w (inr i) =
    let o : (ys : List ℕ) × (length ys < length xs) × Walk g p ys z × (run inv t (word g ys) ≡ run inv (step inv s (g.typ y)) (word g xs)) =
    visit-rest g inv p y (step inv s (g.typ y)) xs t z w.1 i in
    (o.0, omega (arith, o.1), o.2, o.3)

-- behind p with the state t, p does not come with t again
pub no-second : (g : Graph) (inv : Invariant) (p x t : ℕ) (xs : List ℕ) (z : ℕ) → x ≡ p → Walk g x xs z → IsShortest g inv x t xs z → IsVisit g inv p t xs t → ⊥
no-second g inv p x t xs z e w f i =
    let o : (ys : List ℕ) × (length ys < length xs) × Walk g p ys z × (run inv t (word g ys) ≡ run inv t (word g xs)) = visit-rest g inv p x t xs t z w i in
    let l : length xs ≤ length o.0 = f o.0 (subst (λ (u : ℕ). Walk g u o.0 z) (sym e) o.2) o.3 in
    omega (arith, o.1)

-- where edges go to ids below n, so does the walk
pub visit-below : (g : Graph) (inv : Invariant) (p x s : ℕ) (xs : List ℕ) (t z n : ℕ) → ((u v : ℕ) → g.edge u v ≡ true → v < n) → Walk g x xs z → IsVisit g inv p s xs t → p < n
visit-below g inv p x s [] t z n b w i = absurd i
visit-below g inv p x s (y ∷ xs) t z n b w (inl e) = subst (λ (u : ℕ). u < n) e.0 (b x y w.0)
visit-below g inv p x s (y ∷ xs) t z n b w (inr i) = visit-below g inv p y (step inv s (g.typ y)) xs t z n b w.1 i
