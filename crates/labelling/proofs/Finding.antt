-- What is found when a row has got what another one passes.
use Rattle.std.proofs.Common.{◌≡◌, ◌≢◌, ◌↔◌, ℕ, ◌+◌, ◌<◌, ◌≤◌, ◌==◌, Bool, true, false, not, cond, List, [], ◌∷◌, ◌++◌, slice_get, Some, refl, sym, ap, ◌∙◌, subst, subst₂, arith, inl, inr}
use Rattle.std.proofs.lemmas.Bool.{cases_eq, cases_lt, or_cases, and_parts, or_left, or_right, and_from, eqb-true, eq-eqb, true≢false}
use Rattle.limits.specs.declared.TheConstants.{MAX_PARTITIONS, INITIAL, TERMINAL}
use Rattle.invariants.specs.declared.Kind.{Kind}
use Rattle.invariants.specs.declared.Kind.TheVariants.{AF, NF, AP, IB}
use Rattle.invariants.specs.declared.Invariant.{Invariant}
use Rattle.invariants.specs.Monitors.{step, bad_of}
use Rattle.partition_model.specs.Graphs.{Graph}
use Rattle.partition_model.specs.Labels.{Reached}
use Rattle.partition_model.proofs.Labelling.{walk_more, run_more}
use Rattle.bit_rows.specs.Tables.{row_at, is_set, KeepsShape}
use Rattle.labelling.specs.declared.layout.TheConstants.{STATES, LAST_PHASE, BROKEN_ROW}
use Rattle.labelling.specs.PhaseRows.{found_in}
use Rattle.labelling.specs.Carried.{passes, IsPassed}
use Rattle.labelling.specs.Found.{Found, Grows, StartsAt, FollowsAlong, HasStart, IsCarried, IsNothing, IsSameBut, AreNoted}
use Rattle.labelling.specs.Layout.{is_on, labels_from, label_row, bad_row, first_row, move_place, move_row, row_count, AreMarked, AreMarkedOnce, IsAllOff, IsBlankFrom, IsFree, IsTableOf}
use Rattle.labelling.specs.Phases.{phase_of, first_phase, turn, ReachedIn}
use Rattle.labelling.proofs.Marking.{marked_same}
use Rattle.labelling.proofs.Passing.{IsBadBelow}
use Rattle.labelling.proofs.Turning.{phase_phase, turn_acts, turn_near, move_made, place_low, last_stays}

-- different ids or phases have different rows
pub same_label : (bound p s q t : ℕ) → s < STATES → t < STATES → label_row bound p s ≡ label_row bound q t → (p ≡ q) × (s ≡ t)
same_label bound p s q t low next e = (omega (arith, low, next, e), omega (arith, low, next, e))

-- a table stays one of the invariants where its shape stays
pub kept_table : (bound : ℕ) (invs : List Invariant) (old new : List (List Bool)) → KeepsShape old new → IsTableOf bound invs old → IsTableOf bound invs new
kept_table bound invs old new shape h = record { limit = h.limit; named = h.named; shape = shape _ _ h.shape }

-- marked rows stay marked where only labels and notes change
pub kept_marked : (marked : Bool) (bound : ℕ) (invs : List Invariant) (old new : List (List Bool)) → marked ≡ true
    → ((r : ℕ) → r < labels_from bound → r ≢ BROKEN_ROW → row_at new r ≡ row_at old r) → AreMarkedOnce marked bound invs old → AreMarkedOnce marked bound invs new
kept_marked marked bound invs old new on same h = record {
  after = λ _ k inv at. marked_same bound old new k inv (λ r above other. ap (λ (x : List Bool). is_set x k) (same r above other)) (h.after on k inv at);
  before = λ off. absurd (true≢false (sym on ∙ off));
}

-- marked rows stay marked where a row of labels gets what another row passes
pub passed_marked : (marked : Bool) (bound : ℕ) (invs : List Invariant) (old new : List (List Bool)) (from to mask : ℕ) (back changed : Bool) → marked ≡ true → labels_from bound ≤ to
    → IsPassed old new from to mask back changed → AreMarkedOnce marked bound invs old → AreMarkedOnce marked bound invs new
passed_marked marked bound invs old new from to mask back changed on low h =
    kept_marked marked bound invs old new on (λ r above other. h.others r (λ e. absurd (omega (arith, above, e, low))))

-- a row of labels, and that of broken invariants, says nothing before and nothing after the marking
pub still_off : (bound : ℕ) (old new : List (List Bool)) (r k : ℕ) → IsAllOff old → ((i j : ℕ) → IsFree bound i → is_on new i j ≡ false) → IsFree bound r → is_on new r k ≡ is_on old r k
still_off bound old new r k off free is = free r k is ∙ sym (off r k)

-- the rows behind those in use stay blank where one in use gets what another row passes
pub passed_blank : (bound used last : ℕ) (old new : List (List Bool)) (from to mask : ℕ) (back changed : Bool) → used ≤ last → to < last → last ≤ row_count bound
    → IsPassed old new from to mask back changed → IsBlankFrom bound used old → IsBlankFrom bound last new
passed_blank bound used last old new from to mask back changed more within limit h before = record {
  from = omega (arith, before.from, more);
  limit = limit;
  blank = λ r k above low. ap (λ (x : List Bool). is_set x k) (h.others r (λ e. absurd (omega (arith, e, above, within)))) ∙ before.blank r k (omega (arith, more, above)) low;
}

-- the rows behind those in use stay blank where the rows of phases stay
pub kept_blank : (bound used : ℕ) (old new : List (List Bool)) → ((r : ℕ) → labels_from bound ≤ r → row_at new r ≡ row_at old r) → IsBlankFrom bound used old → IsBlankFrom bound used new
kept_blank bound used old new same before = record {
  from = before.from;
  limit = before.limit;
  blank = λ r k above low. ap (λ (x : List Bool). is_set x k) (same r (omega (arith, above, before.from))) ∙ before.blank r k above low;
}

-- once the rows in use are cleared, all rows of phases are blank
pub cleared_all : (bound used : ℕ) (old new : List (List Bool)) → ((r k : ℕ) → labels_from bound ≤ r → r < used → is_on new r k ≡ false) → ((r : ℕ) → used ≤ r → row_at new r ≡ row_at old r)
    → IsBlankFrom bound used old → IsBlankFrom bound (labels_from bound) new
cleared_all bound used old new cleared same before = record {
  from = omega arith;
  limit = omega arith;
  blank = λ r k above low. elim (cases_lt r used) [
    | inl less ↦ cleared r k above less
    | inr more ↦ ap (λ (x : List Bool). is_set x k) (same r more) ∙ before.blank r k more low
  ];
}

-- where all rows of phases are blank, nothing is found
pub blank_nothing : (bound : ℕ) (invs : List Invariant) (table : List (List Bool)) → IsBlankFrom bound (labels_from bound) table → IsNothing (found_in bound invs table)
blank_nothing bound invs table h = record { has = λ k p s in_p low. h.blank (label_row bound p s) k (omega arith) (omega (arith, in_p, low)) }

module _ (bound : ℕ) (invs : List Invariant) (old new : List (List Bool)) (from to mask : ℕ) (back changed : Bool) (h : IsPassed old new from to mask back changed) where
  -- what is on stays on
  stays_on : (r k : ℕ) → is_on old r k ≡ true → is_on new r k ≡ true
  stays_on r k on = elim (cases_eq r to) [
    | inl same ↦
        ap (λ (x : ℕ). is_on new x k) same ∙ h.here k
        ∙ or_left (is_on old to k) (passes old from mask back k) (ap (λ (x : ℕ). is_on old x k) (sym same) ∙ on)
    | inr ne ↦ ap (λ (x : List Bool). is_set x k) (h.others r ne) ∙ on
  ]

  -- what is found grows where a row gets what another row passes
  pub passed_grows : Grows (found_in bound invs old) (found_in bound invs new) changed
  passed_grows = record {
    same = refl;
    keeps = λ k p s on. stays_on (label_row bound p s) k on;
    fewer = h.fewer;
    still = λ off. ap (λ (t : List (List Bool)). found_in bound invs t) (h.still off);
    falls = h.falls;
  }

-- where a row of an id gets what another row passes, only that id has more
pub passed_but : (bound : ℕ) (invs : List Invariant) (old new : List (List Bool)) (from q t mask : ℕ) (back changed : Bool) → t < STATES
    → IsPassed old new from (label_row bound q t) mask back changed → IsSameBut q (found_in bound invs old) (found_in bound invs new)
passed_but bound invs old new from q t mask back changed next h k p s ne low on =
    ap (λ (x : List Bool). is_set x k) (sym (h.others (label_row bound p s) (λ e. ne (same_label bound p s q t low next e).0))) ∙ on

-- the step of a state that is reached is reached along an edge
pub reached_more : (inv : Invariant) (g : Graph) (p s q : ℕ) → Reached inv g p s → g.edge p q ≡ true → Reached inv g q (step inv s (g.typ q))
reached_more inv g p s q r e =
    (r.0 ++ q ∷ [], walk_more g INITIAL r.0 p q r.1 e, run_more inv g 0 (INITIAL ∷ r.0) q ∙ ap (λ (x : ℕ). step inv x (g.typ q)) r.2)

-- the turn of a phase that is reached is reached along an edge
pub reached_turn : (inv : Invariant) (g : Graph) (p s q : ℕ) → ReachedIn inv g p s → g.edge p q ≡ true → ReachedIn inv g q (turn inv s (g.typ q))
reached_turn inv g p s q r e =
    subst (λ (x : ℕ). Reached inv g q x) (sym (phase_phase inv.kind (step inv (phase_of inv.kind s) (g.typ q)))) (reached_more inv g p (phase_of inv.kind s) q r e)

-- whether a mask lets an invariant through
abbrev pub lets : List (List Bool) → ℕ → Bool → ℕ → Bool
lets table mask back k = cond back (not (is_on table mask k)) (is_on table mask k)

-- of what is reached in the phase s the mask lets through what the type turns into t, and all of that, if row `from` has it
pub record LetsThrough (invs : List Invariant) (table : List (List Bool)) (from mask : ℕ) (back : Bool) (typ s t : ℕ) : Type 0 where
  pub only : (k : ℕ) (inv : Invariant) (g : Graph) (p : ℕ) → slice_get invs k ≡ Some inv → ReachedIn inv g p s → lets table mask back k ≡ true → turn inv s typ ≡ t
  pub all : (k : ℕ) (inv : Invariant) → slice_get invs k ≡ Some inv → turn inv s typ ≡ t → is_on table from k ≡ true → lets table mask back k ≡ true

-- the mask of a move lets through those that make it
pub move_lets : (bound : ℕ) (invs : List Invariant) (table : List (List Bool)) (from x typ s t : ℕ) → AreMarked bound invs table → x ≤ bound
    → ((k : ℕ) (inv : Invariant) (z : ℕ) → slice_get invs k ≡ Some inv → step inv z x ≡ step inv z typ) → s ≤ 1 → t ≤ s + 1 → LetsThrough invs table from (move_row x s t) (s == t) typ s t
move_lets bound invs table from x typ s t h le acts low near = record {
  only = λ k inv g p at r on. eqb-true (turn inv s typ) t (sym (made k inv at) ∙ on);
  all = λ k inv at is on. made k inv at ∙ eq-eqb (turn inv s typ) t is;
}
  where
    made : (k : ℕ) (inv : Invariant) → slice_get invs k ≡ Some inv → lets table (move_row x s t) (s == t) k ≡ (turn inv s typ == t)
    made k inv at =
        move_made inv x s t (is_on table (move_row x s t) k) low near ((h k inv at).moves x (move_place s t) le (place_low s t low near))
        ∙ ap (λ (z : ℕ). z == t) (turn_acts inv s x typ (acts k inv (phase_of inv.kind s) at))

-- nothing leaves the last phase
pub last_lets : (invs : List Invariant) (table : List (List Bool)) (from typ : ℕ) → LetsThrough invs table from from false typ LAST_PHASE LAST_PHASE
last_lets invs table from typ = record {
  only = λ k inv g p at r on. last_stays inv g p LAST_PHASE typ r refl;
  all = λ k inv at is on. on;
}

module _ (bound : ℕ) (invs : List Invariant) (old new : List (List Bool)) (p q typ s t mask : ℕ) (back changed : Bool) (through : LetsThrough invs old (label_row bound p s) mask back typ s t)
    (in_p : p < MAX_PARTITIONS) (in_q : q < MAX_PARTITIONS) (low : s < STATES) (next : t < STATES) (h : IsPassed old new (label_row bound p s) (label_row bound q t) mask back changed) where
  -- what a move finds at the end of an edge is reached
  pub carried_follows : FollowsAlong p q typ (found_in bound invs old) (found_in bound invs new)
  carried_follows g edge is_typ before k inv r z at in_r in_z on = elim (cases_eq (label_row bound r z) (label_row bound q t)) [
    | inr ne ↦ before k inv r z at in_r in_z (ap (λ (y : List Bool). is_set y k) (sym (h.others (label_row bound r z) ne)) ∙ on)
    | inl same ↦
        let e = same_label bound r z q t in_z next same in
        elim (or_cases (is_on old (label_row bound q t) k) (passes old (label_row bound p s) mask back k) (sym (h.here k) ∙ ap (λ (y : ℕ). is_on new y k) (sym same) ∙ on)) [
          | inl was ↦ before k inv r z at in_r in_z (ap (λ (y : ℕ). is_on old y k) same ∙ was)
          | inr now ↦
              let b = and_parts (is_on old (label_row bound p s) k) (lets old mask back k) now in
              let was : ReachedIn inv g p s = before k inv p s at in_p low b.0 in
              let made : turn inv s typ ≡ t = through.only k inv g p at was b.1 in
              let more : ReachedIn inv g q (turn inv s (g.typ q)) = reached_turn inv g p s q was edge in
              subst₂ (λ (a b : ℕ). ReachedIn inv g a b) (sym e.0) (ap (λ (y : ℕ). turn inv s y) is_typ ∙ made ∙ sym e.1) more
        ]
  ]

  -- a move finds at the end of an edge the turns of what was found at its beginning
  pub carried_over : IsCarried p s typ q t (found_in bound invs old) (found_in bound invs new)
  carried_over k inv at on made =
      h.here k
      ∙ or_right (is_on old (label_row bound q t) k) (passes old (label_row bound p s) mask back k)
      (and_from (is_on old (label_row bound p s) k) (lets old mask back k) on (through.all k inv at made on))

module _ (bound : ℕ) (invs : List Invariant) (old new : List (List Bool)) (t : ℕ) (changed : Bool)
    (marked : AreMarked bound invs old) (next : t < STATES) (h : IsPassed old new (first_row t) (label_row bound INITIAL t) (first_row t) false changed) where
  -- what INITIAL begins with is reached there
  pub started_at : StartsAt (found_in bound invs old) (found_in bound invs new)
  started_at g is_typ before k inv r z at in_r in_z on = elim (cases_eq (label_row bound r z) (label_row bound INITIAL t)) [
    | inr ne ↦ before k inv r z at in_r in_z (ap (λ (y : List Bool). is_set y k) (sym (h.others (label_row bound r z) ne)) ∙ on)
    | inl same ↦
        let e = same_label bound r z INITIAL t in_z next same in
        elim (or_cases (is_on old (label_row bound INITIAL t) k) (passes old (first_row t) (first_row t) false k) (sym (h.here k) ∙ ap (λ (y : ℕ). is_on new y k) (sym same) ∙ on)) [
          | inl was ↦ before k inv r z at in_r in_z (ap (λ (y : ℕ). is_on old y k) same ∙ was)
          | inr now ↦
              let b = and_parts (is_on old (first_row t) k) (is_on old (first_row t) k) now in
              let first : first_phase inv ≡ t = eqb-true (first_phase inv) t (sym ((marked k inv at).first t next) ∙ b.0) in
              let begin : Reached inv g INITIAL (step inv 0 (g.typ INITIAL)) = ([], refl, refl) in
              let is : step inv 0 (g.typ INITIAL) ≡ phase_of inv.kind z =
              ap (λ (y : ℕ). step inv 0 y) is_typ ∙ sym (phase_phase inv.kind (step inv 0 INITIAL)) ∙ ap (λ (y : ℕ). phase_of inv.kind y) (first ∙ sym e.1) in
              subst₂ (λ (a b : ℕ). Reached inv g a b) (sym e.0) is begin
        ]
  ]

  -- the phase that INITIAL begins with is found there
  pub started : HasStart t (found_in bound invs new)
  started k inv at made =
      h.here k
      ∙ or_right (is_on old (label_row bound INITIAL t) k) (passes old (first_row t) (first_row t) false k)
      (let begins : is_on old (first_row t) k ≡ true = (marked k inv at).first t next ∙ eq-eqb (first_phase inv) t made in
      and_from (is_on old (first_row t) k) (is_on old (first_row t) k) begins begins)

-- a move that no monitor makes is carried by itself
pub far_carried : (p s typ q t : ℕ) (found : Found) → s ≡ 0 → 1 < t → IsCarried p s typ q t found found
far_carried p s typ q t found e far k inv at on made =
    let is : turn inv 0 typ ≡ t = ap (λ (z : ℕ). turn inv z typ) (sym e) ∙ made in
    absurd (omega (arith, far, is, turn_near inv typ))

-- a row got what another passes, where the numbers of the rows are given by other terms
pub passed_at : (old new : List (List Bool)) (a b to at mask by : ℕ) (back changed : Bool) → a ≡ b → to ≡ at → mask ≡ by
    → IsPassed old new a to mask back changed → IsPassed old new b at by back changed
passed_at old new a b to at mask by back changed e f d h =
    subst (λ (x : ℕ). IsPassed old new b at x back changed) d (subst₂ (λ (x y : ℕ). IsPassed old new x y mask back changed) e f h)

same_truth : (a b : Bool) → (a ≡ true → b ≡ true) → (b ≡ true → a ≡ true) → a ≡ b
same_truth true b f g = sym (f refl)
same_truth false true f g = g refl
same_truth false false f g = refl

-- the bad state is one of the three
pub bad_low : (kind : Kind) → bad_of kind < STATES
bad_low AF = omega arith
bad_low NF = omega arith
bad_low AP = omega arith
bad_low IB = omega arith

-- those are noted for which the bad state is found at TERMINAL
pub noted : (bound : ℕ) (invs : List Invariant) (old new : List (List Bool)) → AreMarked bound invs old
    → ((k : ℕ) → (is_on new BROKEN_ROW k ≡ true) ↔ IsBadBelow bound old k STATES)
    → ((r : ℕ) → r ≢ BROKEN_ROW → row_at new r ≡ row_at old r) → AreNoted (found_in bound invs new)
noted bound invs old new marked broken others k inv at =
    let row : ℕ = label_row bound TERMINAL (bad_of inv.kind) in
    let low : bad_of inv.kind < STATES = bad_low inv.kind in
    let stays : is_on new row k ≡ is_on old row k = ap (λ (x : List Bool). is_set x k) (others row (λ e. absurd (omega (arith, e, low)))) in
    let bad : (s : ℕ) → s < STATES → is_on old (bad_row s) k ≡ (s == bad_of inv.kind) = (marked k inv at).bad in
    same_truth (is_on new BROKEN_ROW k) (is_on new row k)
    (λ on.
    let w : IsBadBelow bound old k STATES = (broken k).0 on in
    let e : w.0 ≡ bad_of inv.kind = eqb-true w.0 (bad_of inv.kind) (sym (bad w.0 w.1) ∙ w.3) in
    stays ∙ ap (λ (s : ℕ). is_on old (label_row bound TERMINAL s) k) (sym e) ∙ w.2)
    (λ on. (broken k).1 (bad_of inv.kind, low, sym stays ∙ on, bad (bad_of inv.kind) low ∙ eq-eqb (bad_of inv.kind) (bad_of inv.kind) refl))
