-- How near a monitor's state is to its bad end.
use Rattle.std.proofs.Common.{◌≡◌, ◌≢◌, ℕ, zero, suc, ◌≤◌, ◌⊎◌, ◌==◌, ◌&&◌, nat_lt, Bool, true, false, cond, List, [], ◌∷◌, sym, ◌∙◌, refl, inl, inr, arith, eq-eqb, ne_eqb, eqb-true, lt-ltb}
use Rattle.std.proofs.lemmas.Bool.{cases_eq}
use Rattle.invariants.specs.declared.Kind.{Kind}
use Rattle.invariants.specs.declared.Kind.TheVariants.{AF, NF, AP, IB}
use Rattle.invariants.specs.Monitors.{step_of, bad_of, run_of}
use Rattle.invariants.proofs.Agree.{step-le}
use Rattle.merge_law.specs.Critical.{critical_of, calm_of}

-- the state t is at least as near as s
abbrev pub IsNearer : Kind → ℕ → ℕ → Type 0
IsNearer AF s t = s ≡ 1 → t ≡ 1
IsNearer NF s t = s ≤ t
IsNearer AP s t = (s ≡ 1) ⊎ (s ≡ t) ⊎ (t ≡ 2)
IsNearer IB s t = s ≤ t

-- a state is as near as itself
pub nearer-self : (k : Kind) (s : ℕ) → IsNearer k s s
nearer-self AF s = λ e. e
nearer-self NF s = omega arith
nearer-self AP s = inr (inl refl)
nearer-self IB s = omega arith

af-step : (a b x s t : ℕ) → IsNearer AF s t → IsNearer AF (step_of AF a b s x) (step_of AF a b t x)
af-step a b x s t n =
    elim (cases_eq x a) [
      | inl e ↦ rw (eq-eqb x a e) (λ _. refl)
      | inr m ↦ rw (ne_eqb x a m) (elim (cases_eq x b) [
        | inl e ↦ rw (eq-eqb x b e) (λ c. c)
        | inr o ↦ rw (ne_eqb x b o) n
      ])
    ]

positive : (t : ℕ) → nat_lt 0 (suc t) ≡ true
positive t = lt-ltb 0 (suc t) (omega arith)

not-zero : (t : ℕ) → (suc t == 0) ≡ false
not-zero t = ne_eqb (suc t) 0 (λ e. absurd (omega arith))

-- tests on the type, as Bools
nf-tests : (f e : Bool) (s t : ℕ) → s ≤ t → cond (f && nat_lt 0 s) 2 (cond (e && s == 0) 1 s) ≤ cond (f && nat_lt 0 t) 2 (cond (e && t == 0) 1 t)
nf-tests true true zero zero l = omega arith
nf-tests true false zero zero l = omega arith
nf-tests false true zero zero l = omega arith
nf-tests false false zero zero l = omega arith
nf-tests true true zero (suc t) l = rw (positive t) (omega arith)
nf-tests true false zero (suc t) l = rw (positive t) (omega arith)
nf-tests false true zero (suc t) l = rw (not-zero t) (omega arith)
nf-tests false false zero (suc t) l = omega arith
nf-tests f e (suc s) zero l = absurd (omega arith)
nf-tests true e (suc s) (suc t) l = rw (positive s, positive t) (omega arith)
nf-tests false true (suc s) (suc t) l = rw (not-zero s, not-zero t) l
nf-tests false false (suc s) (suc t) l = l

-- any state is as near as one from which nothing bad comes, which stays
ap-one : (f e : Bool) (t : ℕ) → IsNearer AP (cond (f && false) 2 (cond (e && false) 1 1)) t
ap-one true true t = inl refl
ap-one true false t = inl refl
ap-one false true t = inl refl
ap-one false false t = inl refl

-- the bad state stays, and is as near as any
ap-two : (f e : Bool) (s : ℕ) → IsNearer AP s (cond (f && false) 2 (cond (e && false) 1 2))
ap-two true true s = inr (inr refl)
ap-two true false s = inr (inr refl)
ap-two false true s = inr (inr refl)
ap-two false false s = inr (inr refl)

ap-step : (a b x s t : ℕ) → IsNearer AP s t → IsNearer AP (step_of AP a b s x) (step_of AP a b t x)
ap-step a b x s t (inl e) = rw e (ap-one (x == b) (x == a) (step_of AP a b t x))
ap-step a b x s t (inr (inl e)) = rw e (inr (inl refl))
ap-step a b x s t (inr (inr e)) = rw e (ap-two (x == b) (x == a) (step_of AP a b s x))

above-one : (t : ℕ) → (suc (suc t) == 1) ≡ false
above-one t = ne_eqb (suc (suc t)) 1 (λ e. absurd (omega arith))

-- from a state past 1 nothing moves
ib-high : (e f : Bool) (t : ℕ) → cond (e && suc (suc t) == 1) 2 (cond (e && suc (suc t) == 0) 1 (cond (f && suc (suc t) == 1) 0 (suc (suc t)))) ≡ suc (suc t)
ib-high true true t = rw (above-one t, not-zero (suc t)) refl
ib-high true false t = rw (above-one t, not-zero (suc t)) refl
ib-high false true t = rw (above-one t) refl
ib-high false false t = refl

-- tests on the type, as Bools
ib-tests : (e f : Bool) (s t : ℕ) → s ≤ t
    → cond (e && s == 1) 2 (cond (e && s == 0) 1 (cond (f && s == 1) 0 s)) ≤ cond (e && t == 1) 2 (cond (e && t == 0) 1 (cond (f && t == 1) 0 t))
ib-tests true f zero zero l = omega arith
ib-tests false true zero zero l = omega arith
ib-tests false false zero zero l = omega arith
ib-tests true f zero (suc zero) l = omega arith
ib-tests false true zero (suc zero) l = omega arith
ib-tests false false zero (suc zero) l = omega arith
ib-tests true f zero (suc (suc t)) l = rw (ib-high true f t) (omega arith)
ib-tests false true zero (suc (suc t)) l = rw (ib-high false true t) (omega arith)
ib-tests false false zero (suc (suc t)) l = rw (ib-high false false t) (omega arith)
ib-tests e f (suc s) zero l = absurd (omega arith)
ib-tests true f (suc zero) (suc zero) l = omega arith
ib-tests false true (suc zero) (suc zero) l = omega arith
ib-tests false false (suc zero) (suc zero) l = omega arith
ib-tests true f (suc zero) (suc (suc t)) l = rw (ib-high true f t) (omega arith)
ib-tests false true (suc zero) (suc (suc t)) l = rw (ib-high false true t) (omega arith)
ib-tests false false (suc zero) (suc (suc t)) l = rw (ib-high false false t) (omega arith)
ib-tests e f (suc (suc s)) (suc zero) l = absurd (omega arith)
ib-tests e f (suc (suc s)) (suc (suc t)) l = rw (ib-high e f s, ib-high e f t) l

-- a step keeps which of two states is at least as near
pub nearer-step : (k : Kind) (a b x s t : ℕ) → IsNearer k s t → IsNearer k (step_of k a b s x) (step_of k a b t x)
nearer-step AF a b x s t n = af-step a b x s t n
nearer-step NF a b x s t n = nf-tests (x == b) (x == a) s t n
nearer-step AP a b x s t n = ap-step a b x s t n
nearer-step IB a b x s t n = ib-tests (x == a) (x == b) s t n

-- the bad state, where it is another than the critical one
abbrev pub IsLost : Kind → ℕ → Type 0
IsLost AF t = ⊥
IsLost NF t = t ≡ 2
IsLost AP t = t ≡ 2
IsLost IB t = t ≡ 2

-- nothing bad is near
abbrev pub IsSafe : Kind → ℕ → Type 0
IsSafe k t = (s u : ℕ) → IsNearer k s t → s ≤ 2 → IsNearer k s u

-- a state is safe, critical or lost
pub three : (k : Kind) (t : ℕ) → t ≤ 2 → IsSafe k t ⊎ ((t ≡ critical_of k) ⊎ IsLost k t)
three AF zero l = inl (λ s u n m e. absurd (let z : zero ≡ suc zero = n e in cc))
three AF (suc zero) l = inr (inl refl)
three AF (suc (suc zero)) l = inl (λ s u n m e. absurd (let z : suc (suc zero) ≡ suc zero = n e in omega arith))
three NF zero l = inl (λ s u n m. omega arith)
three NF (suc zero) l = inr (inl refl)
three NF (suc (suc zero)) l = inr (inr refl)
three AP zero l = inr (inl refl)
three AP (suc zero) l = inl (λ s u n m. elim n [ inl e ↦ inl e | inr o ↦ elim o [ inl e ↦ inl e | inr e ↦ absurd (let z : suc zero ≡ 2 = e in omega arith) ] ])
three AP (suc (suc zero)) l = inr (inr refl)
three IB zero l = inl (λ s u n m. omega arith)
three IB (suc zero) l = inr (inl refl)
three IB (suc (suc zero)) l = inr (inr refl)
three k (suc (suc (suc t))) l = absurd (omega arith)

nf-two : (f e : Bool) → ◌≡◌ {A = ℕ} (cond (f && true) 2 (cond (e && false) 1 2)) 2
nf-two true true = refl
nf-two true false = refl
nf-two false true = refl
nf-two false false = refl

ap-two-is : (f e : Bool) → ◌≡◌ {A = ℕ} (cond (f && false) 2 (cond (e && false) 1 2)) 2
ap-two-is true true = refl
ap-two-is true false = refl
ap-two-is false true = refl
ap-two-is false false = refl

-- from a lost state each word ends in the bad state
pub lost-run : (k : Kind) (a b t : ℕ) (w : List ℕ) → IsLost k t → run_of k a b t w ≡ bad_of k
lost-run AF a b t w l = absurd l
lost-run NF a b t [] l = l
lost-run NF a b t (x ∷ xs) l = lost-run NF a b (step_of NF a b t x) xs (rw l (nf-two (x == b) (x == a)))
lost-run AP a b t [] l = l
lost-run AP a b t (x ∷ xs) l = lost-run AP a b (step_of AP a b t x) xs (rw l (ap-two-is (x == b) (x == a)))
lost-run IB a b t [] l = l
lost-run IB a b t (x ∷ xs) l = lost-run IB a b (step_of IB a b t x) xs (rw l (ib-high (x == a) (x == b) 0))

-- a word leads from one of the three states to one of them
pub run-le : (k : Kind) (a b s : ℕ) (w : List ℕ) → s ≤ 2 → run_of k a b s w ≤ 2
run-le k a b s [] l = l
run-le k a b s (x ∷ xs) l = run-le k a b (step_of k a b s x) xs (step-le k a b s x l)

-- the critical state is one of the three
pub critical-le : (k : Kind) → critical_of k ≤ 2
critical-le AF = omega arith
critical-le NF = omega arith
critical-le AP = omega arith
critical-le IB = omega arith

-- nearer than the bad state is the bad state
pub nearer-bad : (k : Kind) (s t : ℕ) → t ≤ 2 → IsNearer k s t → (s == bad_of k) ≡ true → (t == bad_of k) ≡ true
nearer-bad AF s t l n e = eq-eqb t 1 (n (eqb-true s 1 e))
nearer-bad NF s t l n e = let d : s ≡ 2 = eqb-true s 2 e in eq-eqb t 2 (omega arith)
nearer-bad AP s t l (inl o) e = let d : s ≡ 2 = eqb-true s 2 e in absurd (omega arith)
nearer-bad AP s t l (inr (inl o)) e = let d : s ≡ 2 = eqb-true s 2 e in eq-eqb t 2 (omega arith)
nearer-bad AP s t l (inr (inr o)) e = eq-eqb t 2 o
nearer-bad IB s t l n e = let d : s ≡ 2 = eqb-true s 2 e in eq-eqb t 2 (omega arith)

-- any state is at least as near as the calm one
pub nearer-calm : (k : Kind) (t : ℕ) → IsNearer k (calm_of k) t
nearer-calm AF t = λ e. absurd (let z : zero ≡ suc zero = e in cc)
nearer-calm NF t = omega arith
nearer-calm AP t = inl refl
nearer-calm IB t = omega arith

-- as near as the critical state
pub nearer-critical : (k : Kind) (t : ℕ) → t ≤ 2 → IsNearer k (critical_of k) t → (t ≡ critical_of k) ⊎ IsLost k t
nearer-critical AF t l n = inl (n refl)
nearer-critical NF zero l n = absurd (omega arith)
nearer-critical NF (suc zero) l n = inl refl
nearer-critical NF (suc (suc zero)) l n = inr refl
nearer-critical NF (suc (suc (suc t))) l n = absurd (omega arith)
nearer-critical AP t l (inl e) = absurd (let z : zero ≡ suc zero = e in cc)
nearer-critical AP t l (inr (inl e)) = inl (sym e)
nearer-critical AP t l (inr (inr e)) = inr e
nearer-critical IB zero l n = absurd (omega arith)
nearer-critical IB (suc zero) l n = inl refl
nearer-critical IB (suc (suc zero)) l n = inr refl
nearer-critical IB (suc (suc (suc t))) l n = absurd (omega arith)

-- a word keeps which of two states is at least as near
pub nearer-run : (k : Kind) (a b s t : ℕ) (w : List ℕ) → IsNearer k s t → IsNearer k (run_of k a b s w) (run_of k a b t w)
nearer-run k a b s t [] n = n
nearer-run k a b s t (x ∷ xs) n = nearer-run k a b (step_of k a b s x) (step_of k a b t x) xs (nearer-step k a b x s t n)

-- the critical state is entered from the calm one, or stays
pub enters : (k : Kind) (a b s x : ℕ) → s ≤ 2 → step_of k a b s x ≡ critical_of k → (s ≡ critical_of k) ⊎ (step_of k a b (calm_of k) x ≡ critical_of k)
enters AF a b s x l e =
    elim (cases_eq x a) [
      | inl c ↦ inr (rw (eq-eqb x a c))
      | inr m ↦
          let f : cond (x == b) 0 s ≡ 1 = rw (ne_eqb x a m) at e in
          elim (cases_eq x b) [
            | inl c ↦ absurd (let z : cond true 0 s ≡ 1 = rw (eq-eqb x b c) at f in let y : zero ≡ suc zero = z in cc)
            | inr o ↦ inl (rw (ne_eqb x b o) at f)
          ]
    ]
enters NF a b zero x l e = inr e
enters NF a b (suc zero) x l e = inl refl
enters NF a b (suc (suc zero)) x l e = absurd (let z : 2 ≡ 1 = sym (nf-two (x == b) (x == a)) ∙ e in omega arith)
enters NF a b (suc (suc (suc s))) x l e = absurd (omega arith)
enters AP a b zero x l e = inl refl
enters AP a b (suc zero) x l e = inr e
enters AP a b (suc (suc zero)) x l e = absurd (let z : 2 ≡ 0 = sym (ap-two-is (x == b) (x == a)) ∙ e in omega arith)
enters AP a b (suc (suc (suc s))) x l e = absurd (omega arith)
enters IB a b zero x l e = inr e
enters IB a b (suc zero) x l e = inl refl
enters IB a b (suc (suc zero)) x l e = absurd (let z : 2 ≡ 1 = sym (ib-high (x == a) (x == b) 0) ∙ e in omega arith)
enters IB a b (suc (suc (suc s))) x l e = absurd (omega arith)

-- the lost state is the bad one, and another than the critical one
pub lost-is : (k : Kind) (t : ℕ) → IsLost k t → (t ≡ bad_of k) × (bad_of k ≢ critical_of k)
lost-is AF t l = absurd l
lost-is NF t l = (l, λ e. absurd (omega arith))
lost-is AP t l = (l, λ e. absurd (omega arith))
lost-is IB t l = (l, λ e. absurd (omega arith))

-- the bad state is lost, where it is another than the critical one
pub is-lost : (k : Kind) (t : ℕ) → t ≡ bad_of k → bad_of k ≢ critical_of k → IsLost k t
is-lost AF t e n = n refl
is-lost NF t e n = e
is-lost AP t e n = e
is-lost IB t e n = e

-- where the test finds them equal, the critical state is the bad one
pub bad-critical : (k : Kind) → (critical_of k == bad_of k) ≡ true → critical_of k ≡ bad_of k
bad-critical k e = eqb-true (critical_of k) (bad_of k) e
