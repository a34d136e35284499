-- Phases and states, and what phases become.
use Rattle.std.proofs.Common.{◌≡◌, ℕ, zero, suc, ◌+◌, ◌<◌, ◌≤◌, ◌==◌, ◌&&◌, Bool, true, false, not, cond, eqb, slice_index_or, List, [], ◌∷◌, slice_get, Some, refl, sym, ap, ◌∙◌, subst, arith}
use Rattle.std.proofs.lemmas.Bool.{cond_both, ne_eqb}
use Rattle.std.proofs.lemmas.Option.{get_or_from_slice_get}
use Rattle.limits.specs.declared.TheConstants.{INITIAL}
use Rattle.invariants.specs.declared.Kind.{Kind}
use Rattle.invariants.specs.declared.Kind.TheVariants.{AF, NF, AP, IB}
use Rattle.invariants.specs.declared.Invariant.{Invariant}
use Rattle.invariants.specs.Candidates.{invariant}
use Rattle.invariants.specs.Monitors.{step, step_of, run_of, bad_of}
use Rattle.invariants.proofs.Agree.{step-le}
use Rattle.partition_model.specs.Graphs.{Graph, word}
use Rattle.labelling.specs.declared.layout.TheConstants.{STATES, LAST_PHASE, MOVES}
use Rattle.labelling.specs.Layout.{is_move, move_place}
use Rattle.labelling.specs.Phases.{phase_of, phase_at, first_phase, turn, ReachedIn}

-- from 2 on a phase of AP has the number of its state
phase_far : (s : ℕ) → phase_of AP (suc (suc s)) ≡ suc (suc s)
phase_far s =
    let e : eqb (suc (suc s)) 0 ≡ false = ne_eqb (suc (suc s)) 0 (λ z. absurd (omega (arith, z))) in
    let f : eqb (suc (suc s)) 1 ≡ false = ne_eqb (suc (suc s)) 1 (λ z. absurd (omega (arith, z))) in
    rw (e, f) refl

-- the phase of the state of a phase
pub phase_phase : (kind : Kind) (s : ℕ) → phase_of kind (phase_of kind s) ≡ s
phase_phase AF s = refl
phase_phase NF s = refl
phase_phase AP zero = refl
phase_phase AP (suc zero) = refl
phase_phase AP (suc (suc s)) = ap (λ (z : ℕ). phase_of AP z) (phase_far s) ∙ phase_far s
phase_phase IB s = refl

-- a phase is one of the three
pub phase_low : (kind : Kind) (s : ℕ) → s < STATES → phase_of kind s < STATES
phase_low AF s low = low
phase_low NF s low = low
phase_low AP zero low = omega arith
phase_low AP (suc zero) low = omega arith
phase_low AP (suc (suc s)) low = subst (λ (z : ℕ). z < STATES) (sym (phase_far s)) low
phase_low IB s low = low

-- the last phase is the last state
pub phase_last : (kind : Kind) → phase_of kind LAST_PHASE ≡ LAST_PHASE
phase_last AF = refl
phase_last NF = refl
phase_last AP = refl
phase_last IB = refl

-- the bad phase has the number of the bad state
pub phase_bad : (kind : Kind) → phase_of kind (bad_of kind) ≡ bad_of kind
phase_bad AF = refl
phase_bad NF = refl
phase_bad AP = refl
phase_bad IB = refl

-- the phase for the invariant with a number is that by its kind
pub phase_known : (invs : List Invariant) (k s : ℕ) (inv : Invariant) → slice_get invs k ≡ Some inv → phase_at invs k s ≡ phase_of inv.kind s
phase_known invs k s inv at = ap (λ (i : Invariant). phase_of i.kind s) (get_or_from_slice_get invs k inv (invariant AF 0 0) at)

-- and is one of the three
pub phase_at_low : (invs : List Invariant) (k s : ℕ) → s < STATES → phase_at invs k s < STATES
phase_at_low invs k s low = phase_low (slice_index_or invs k (invariant AF 0 0)).kind s low

-- a turn leads to one of the three phases
pub turn_low : (inv : Invariant) (s x : ℕ) → s < STATES → turn inv s x < STATES
turn_low inv s x low =
    let p : phase_of inv.kind s < STATES = phase_low inv.kind s low in
    let h : step inv (phase_of inv.kind s) x ≤ 2 = step-le inv.kind inv.a inv.b (phase_of inv.kind s) x (omega (arith, p)) in
    phase_low inv.kind (step inv (phase_of inv.kind s) x) (omega (arith, h))

-- a monitor is in one of the three phases at INITIAL
pub first_low : (inv : Invariant) → first_phase inv < STATES
first_low inv =
    let h : step inv 0 INITIAL ≤ 2 = step-le inv.kind inv.a inv.b 0 INITIAL (omega arith) in
    phase_low inv.kind (step inv 0 INITIAL) (omega (arith, h))

-- a type that leads from a state as another does turns the phase as that does
pub turn_acts : (inv : Invariant) (s x y : ℕ) → step inv (phase_of inv.kind s) x ≡ step inv (phase_of inv.kind s) y → turn inv s x ≡ turn inv s y
turn_acts inv s x y e = ap (λ (z : ℕ). phase_of inv.kind z) e

af_near : (u v : Bool) → cond u 1 (cond v 0 0) ≤ 1
af_near true v = omega arith
af_near false true = omega arith
af_near false false = omega arith

nf_near : (u v : Bool) → cond (u && false) 2 (cond (v && true) 1 0) ≤ 1
nf_near true true = omega arith
nf_near true false = omega arith
nf_near false true = omega arith
nf_near false false = omega arith

ap_near : (u v : Bool) → phase_of AP (cond (u && false) 2 (cond (v && false) 1 1)) ≤ 1
ap_near true true = omega arith
ap_near true false = omega arith
ap_near false true = omega arith
ap_near false false = omega arith

ib_near : (u v : Bool) → cond (u && false) 2 (cond (u && true) 1 (cond (v && false) 0 0)) ≤ 1
ib_near true true = omega arith
ib_near true false = omega arith
ib_near false true = omega arith
ib_near false false = omega arith

near_of : (kind : Kind) (a b x : ℕ) → phase_of kind (step_of kind a b (phase_of kind 0) x) ≤ 1
near_of AF a b x = af_near (x == a) (x == b)
near_of NF a b x = nf_near (x == b) (x == a)
near_of AP a b x = ap_near (x == b) (x == a)
near_of IB a b x = ib_near (x == a) (x == b)

-- from phase 0 no monitor goes to phase 2
pub turn_near : (inv : Invariant) (x : ℕ) → turn inv 0 x ≤ 1
turn_near inv x = near_of inv.kind inv.a inv.b x

zero_stays : (n : ℕ) → n ≤ 1 → not (n == 1) ≡ (n == 0)
zero_stays zero le = refl
zero_stays (suc zero) le = refl
zero_stays (suc (suc n)) le = absurd (omega (arith, le))

not_not : (b : Bool) → not (not b) ≡ b
not_not true = refl
not_not false = refl

-- what the row of a move lets through makes the move
pub move_made : (inv : Invariant) (x s t : ℕ) (m : Bool) → s ≤ 1 → t ≤ s + 1 → m ≡ is_move inv x (move_place s t) → cond (s == t) (not m) m ≡ (turn inv s x == t)
move_made inv x zero zero m low near e = ap not e ∙ zero_stays (turn inv 0 x) (turn_near inv x)
move_made inv x zero (suc zero) m low near e = e
move_made inv x zero (suc (suc t)) m low near e = absurd (omega (arith, near))
move_made inv x (suc zero) zero m low near e = e
move_made inv x (suc zero) (suc zero) m low near e = ap not e ∙ not_not (turn inv 1 x == 1)
move_made inv x (suc zero) (suc (suc zero)) m low near e = e
move_made inv x (suc zero) (suc (suc (suc t))) m low near e = absurd (omega (arith, near))
move_made inv x (suc (suc s)) t m low near e = absurd (omega (arith, low))

-- the place of a move is among those of its type
pub place_low : (s t : ℕ) → s ≤ 1 → t ≤ s + 1 → move_place s t < MOVES
place_low zero t low near = omega arith
place_low (suc zero) t low near = omega (arith, near)
place_low (suc (suc s)) t low near = absurd (omega (arith, low))

-- a monitor for AF is never in the last state
af_step : (a b s x : ℕ) → s ≤ 1 → step_of AF a b s x ≤ 1
af_step a b s x le =
    cond_both (x == a) 1 (cond (x == b) 0 s) (λ z. z ≤ 1) (λ _. omega arith) (λ _. cond_both (x == b) 0 s (λ z. z ≤ 1) (λ _. omega arith) (λ _. le))

af_run : (a b s : ℕ) (w : List ℕ) → s ≤ 1 → run_of AF a b s w ≤ 1
af_run a b s [] le = le
af_run a b s (x ∷ w) le = af_run a b (step_of AF a b s x) w (af_step a b s x le)

nf_last : (u v : Bool) → ◌≡◌ {A = ℕ} (cond (u && true) 2 (cond (v && false) 1 2)) 2
nf_last true v = refl
nf_last false true = refl
nf_last false false = refl

ap_last : (u v : Bool) → ◌≡◌ {A = ℕ} (cond (u && false) 2 (cond (v && false) 1 2)) 2
ap_last true true = refl
ap_last true false = refl
ap_last false true = refl
ap_last false false = refl

ib_last : (u v : Bool) → ◌≡◌ {A = ℕ} (cond (u && false) 2 (cond (u && false) 1 (cond (v && false) 0 2))) 2
ib_last true true = refl
ib_last true false = refl
ib_last false true = refl
ib_last false false = refl

-- and no monitor leaves it
last_of : (kind : Kind) (a b x : ℕ) (w : List ℕ) → run_of kind a b 0 w ≡ LAST_PHASE → step_of kind a b LAST_PHASE x ≡ LAST_PHASE
last_of AF a b x w e = absurd (omega (arith, e, af_run a b 0 w (omega arith)))
last_of NF a b x w e = nf_last (x == b) (x == a)
last_of AP a b x w e = ap_last (x == b) (x == a)
last_of IB a b x w e = ib_last (x == a) (x == b)

-- where the last phase is reached, nothing leads out of it
pub last_stays : (inv : Invariant) (g : Graph) (p s x : ℕ) → ReachedIn inv g p s → s ≡ LAST_PHASE → turn inv s x ≡ LAST_PHASE
last_stays inv g p s x r e =
    let is : phase_of inv.kind s ≡ LAST_PHASE = ap (λ (z : ℕ). phase_of inv.kind z) e ∙ phase_last inv.kind in
    let stays : step inv (phase_of inv.kind s) x ≡ LAST_PHASE = ap (λ (z : ℕ). step inv z x) is ∙ last_of inv.kind inv.a inv.b x (word g (INITIAL ∷ r.0)) (r.2 ∙ is) in
    ap (λ (z : ℕ). phase_of inv.kind z) stays ∙ phase_last inv.kind
