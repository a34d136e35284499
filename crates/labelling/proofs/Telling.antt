-- What labels tell of a graph.
use Rattle.std.proofs.Common.{◌≡◌, ◌↔◌, ℕ, zero, suc, ◌<◌, ◌≤◌, Bool, true, false, not, List, [], ◌∷◌, length, get_or, slice_get, Some, refl, sym, ap, ap₂, ◌∙◌, subst, subst₂, arith, inl, inr}
use Rattle.std.proofs.lemmas.Bool.{false≢true, true≢false, cases_Bool, eqb-true, eq-eqb}
use Rattle.std.proofs.lemmas.Option.{slice_get-get_or, slice_get_within}
use Rattle.std.proofs.lemmas.List.{get_or-drop}
use Rattle.std.specs.List.{AllByRecursion}
use Rattle.limits.specs.declared.TheConstants.{MAX_PARTITIONS, TERMINAL}
use Rattle.invariants.specs.declared.Kind.TheVariants.{AF}
use Rattle.invariants.specs.declared.Invariant.{Invariant}
use Rattle.invariants.specs.Monitors.{is_bad, bad_of}
use Rattle.partition_model.specs.Graphs.{Graph, Satisfies}
use Rattle.partition_model.specs.Labels.{Reached}
use Rattle.partition_model.specs.Refinement.{SatisfiesAll, IsFirstBroken}
use Rattle.partition_model.proofs.Labelling.{reached_inductive, reached_satisfies}
use Rattle.partition_model.proofs.Runs.{broken-first}
use Rattle.clashes.specs.Marks.{Marks}
use Rattle.models.specs.Models.{has_state}
use Rattle.bit_rows.specs.Tables.{is_set}
use Rattle.labelling.specs.declared.layout.TheConstants.{STATES, BROKEN_ROW}
use Rattle.labelling.specs.PhaseRows.{found_in}
use Rattle.labelling.specs.Found.{IsExact, AreNoted}
use Rattle.labelling.specs.Labelled.{Labelling, AreLabelsOf, digit, is_found, number_of, labelling_in, SaysSatisfied}
use Rattle.labelling.specs.Layout.{is_on, labels_from, label_place, label_row}
use Rattle.labelling.specs.Phases.{phase_of, phase_at}
use Rattle.labelling.proofs.Finding.{reached_more, bad_low}
use Rattle.labelling.proofs.Turning.{phase_phase, phase_low, phase_bad, phase_known}

-- the number of a set of states is at most 7
pub number_small : (a b c : Bool) → number_of a b c ≤ 7
number_small true true true = omega arith
number_small true true false = omega arith
number_small true false true = omega arith
number_small true false false = omega arith
number_small false true true = omega arith
number_small false true false = omega arith
number_small false false true = omega arith
number_small false false false = omega arith

state_zero : (a b c : Bool) → has_state (number_of a b c) 0 ≡ a
state_zero true true true = refl
state_zero true true false = refl
state_zero true false true = refl
state_zero true false false = refl
state_zero false true true = refl
state_zero false true false = refl
state_zero false false true = refl
state_zero false false false = refl

state_one : (a b c : Bool) → has_state (number_of a b c) 1 ≡ b
state_one true true true = refl
state_one true true false = refl
state_one true false true = refl
state_one true false false = refl
state_one false true true = refl
state_one false true false = refl
state_one false false true = refl
state_one false false false = refl

state_two : (a b c : Bool) → has_state (number_of a b c) 2 ≡ c
state_two true true true = refl
state_two true true false = refl
state_two true false true = refl
state_two true false false = refl
state_two false true true = refl
state_two false true false = refl
state_two false false true = refl
state_two false false false = refl

-- the states of a label are those that are found
pub states_found : (labels : Labelling) (k p s : ℕ) → s < STATES → has_state (digit labels k p) s ≡ is_found labels k p s
states_found labels k p zero low = state_zero (is_found labels k p 0) (is_found labels k p 1) (is_found labels k p 2)
states_found labels k p (suc zero) low = state_one (is_found labels k p 0) (is_found labels k p 1) (is_found labels k p 2)
states_found labels k p (suc (suc zero)) low = state_two (is_found labels k p 0) (is_found labels k p 1) (is_found labels k p 2)
states_found labels k p (suc (suc (suc s))) low = absurd (omega (arith, low))

-- what labels say to be found is what the row of its phase says
pub found_same : (bound : ℕ) (invs : List Invariant) (table : List (List Bool)) (marks : Marks) (k p s : ℕ) → p < MAX_PARTITIONS → s < STATES
    → is_found (labelling_in bound invs table marks) k p s ≡ is_on table (label_row bound p (phase_at invs k s)) k
found_same bound invs table marks k p s in_p low =
    ap (λ (x : List Bool). is_set x k) (get_or-drop (labels_from bound) table (label_place p (phase_at invs k s)) [])

-- the number of the states whose rows are on
abbrev pub digit_in : ℕ → List Invariant → List (List Bool) → ℕ → ℕ → ℕ
digit_in bound invs rows k p =
    number_of (is_on rows (label_row bound p (phase_at invs k 0)) k) (is_on rows (label_row bound p (phase_at invs k 1)) k) (is_on rows (label_row bound p (phase_at invs k 2)) k)

-- the number of the states whose rows are on is the label
pub digit_same : (bound : ℕ) (invs : List Invariant) (table : List (List Bool)) (marks : Marks) (k p : ℕ) → p < MAX_PARTITIONS
    → digit_in bound invs table k p ≡ digit (labelling_in bound invs table marks) k p
digit_same bound invs table marks k p in_p =
    let zeroth = found_same bound invs table marks k p 0 in_p (omega arith) in
    let first = found_same bound invs table marks k p 1 in_p (omega arith) in
    let second = found_same bound invs table marks k p 2 in_p (omega arith) in
    sym (ap₂ (λ (x y : Bool). number_of x y (is_found (labelling_in bound invs table marks) k p 2)) zeroth first
    ∙ ap (λ (x : Bool). number_of (is_on table (label_row bound p (phase_at invs k 0)) k) (is_on table (label_row bound p (phase_at invs k 1)) k) x) second)

-- where what is found is what is reached, labels say the states that are reached
pub exact_labels : (bound : ℕ) (g : Graph) (invs : List Invariant) (table : List (List Bool)) (marks : Marks) → IsExact g (found_in bound invs table) → AreLabelsOf (labelling_in bound invs table marks) g
exact_labels bound g invs table marks h = record {
  states = λ k inv p s at in_p low.
      let e : has_state (digit (labelling_in bound invs table marks) k p) s ≡ is_on table (label_row bound p (phase_of inv.kind s)) k =
      states_found (labelling_in bound invs table marks) k p s low ∙ found_same bound invs table marks k p s in_p low ∙ ap (λ (x : ℕ). is_on table (label_row bound p x) k) (phase_known invs k s inv at) in
      let w = h k inv p (phase_of inv.kind s) at in_p (phase_low inv.kind s low) in
      let state : phase_of inv.kind (phase_of inv.kind s) ≡ s = phase_phase inv.kind s in (
        λ on. subst (λ (x : ℕ). Reached inv g p x) state (w.0 (sym e ∙ on)),
        λ r. e ∙ w.1 (subst (λ (x : ℕ). Reached inv g p x) (sym state) r),
      );
  small = λ k p. number_small (is_found (labelling_in bound invs table marks) k p 0) (is_found (labelling_in bound invs table marks) k p 1) (is_found (labelling_in bound invs table marks) k p 2);
}

all_at : (P : Invariant → Type 0) (invs : List Invariant) → ((k : ℕ) (inv : Invariant) → slice_get invs k ≡ Some inv → P inv) → AllByRecursion P invs
all_at P [] h = tt
all_at P (x ∷ xs) h = (h 0 x refl, all_at P xs (λ k inv at. h (suc k) inv at))

module _ (bound : ℕ) (g : Graph) (invs : List Invariant) (table : List (List Bool)) (marks : Marks) (labels : AreLabelsOf (labelling_in bound invs table marks) g) (noted : AreNoted (found_in bound invs table)) where
  broken_tells : (k : ℕ) (inv : Invariant) → slice_get invs k ≡ Some inv → (is_on table BROKEN_ROW k ≡ true) ↔ Reached inv g TERMINAL (bad_of inv.kind)
  broken_tells k inv at =
      let low : bad_of inv.kind < STATES = bad_low inv.kind in
      let e : is_on table BROKEN_ROW k ≡ has_state (digit (labelling_in bound invs table marks) k TERMINAL) (bad_of inv.kind) =
      noted k inv at
      ∙ sym (states_found (labelling_in bound invs table marks) k TERMINAL (bad_of inv.kind) low ∙ found_same bound invs table marks k TERMINAL (bad_of inv.kind) (omega arith) low
      ∙ ap (λ (x : ℕ). is_on table (label_row bound TERMINAL x) k) (phase_known invs k (bad_of inv.kind) inv at ∙ phase_bad inv.kind)) in
      let w = labels.states k inv TERMINAL (bad_of inv.kind) at (omega arith) low in
      (λ on. w.0 (sym e ∙ on), λ r. e ∙ w.1 r)

  satisfied : (k : ℕ) (inv : Invariant) → slice_get invs k ≡ Some inv → is_on table BROKEN_ROW k ≡ false → Satisfies g inv
  satisfied k inv at off = reached_satisfies inv g (record {
    start = ([], refl, refl);
    along = λ p q s edge r. reached_more inv g p s q r edge;
    end = λ s r. elim (cases_Bool (is_bad inv s)) [
      | inl bad ↦
          let e : s ≡ bad_of inv.kind = eqb-true s (bad_of inv.kind) bad in
          absurd (false≢true (sym off ∙ (broken_tells k inv at).1 (subst (λ (x : ℕ). Reached inv g TERMINAL x) e r)))
      | inr good ↦ good
    ];
  })

  unsatisfied : (k : ℕ) (inv : Invariant) → slice_get invs k ≡ Some inv → is_on table BROKEN_ROW k ≡ true → Satisfies g inv → ⊥
  unsatisfied k inv at on sat =
      let good : is_bad inv (bad_of inv.kind) ≡ false = (reached_inductive inv g sat).end (bad_of inv.kind) ((broken_tells k inv at).0 on) in
      true≢false (sym (eq-eqb (bad_of inv.kind) (bad_of inv.kind) refl) ∙ good)

  -- where nothing is noted, the graph satisfies all invariants
  pub none_broken : ((k : ℕ) → is_on table BROKEN_ROW k ≡ false) → SatisfiesAll g invs
  none_broken off = all_at (λ inv. Satisfies g inv) invs (λ k inv at. satisfied k inv at (off k))

  -- the first that is noted is the first that the graph does not satisfy
  pub first_broken : (k : ℕ) → k < length invs → is_on table BROKEN_ROW k ≡ true → ((j : ℕ) → j < k → is_on table BROKEN_ROW j ≡ false) → IsFirstBroken g invs k
  first_broken k inside on before =
      let inv : Invariant = get_or invs k (record { kind = AF; a = 0; b = 0 }) in
      let at : slice_get invs k ≡ Some inv = slice_get-get_or invs k (record { kind = AF; a = 0; b = 0 }) inside in
      broken-first g invs k inv at (λ j other below here. satisfied j other here (before j below)) (unsatisfied k inv at on)

  -- flags that are true where nothing is noted say what is satisfied
  pub told_satisfied : (flags : List Bool) → ((k : ℕ) → k < length invs → get_or flags k false ≡ not (is_on table BROKEN_ROW k)) → SaysSatisfied g invs flags
  told_satisfied flags told k inv at = elim (cases_Bool (is_on table BROKEN_ROW k)) [
    | inl on ↦ (λ yes. absurd (false≢true (sym (told k (slice_get_within invs k inv at) ∙ ap not on) ∙ yes)), λ sat. absurd (unsatisfied k inv at on sat))
    | inr off ↦ (λ yes. satisfied k inv at off, λ sat. told k (slice_get_within invs k inv at) ∙ ap not off)
  ]

-- the label of an invariant that rows of labels say
abbrev pub digit_at : List Invariant → List (List Bool) → ℕ → ℕ → ℕ
digit_at invs rows k p =
    number_of (is_on rows (label_place p (phase_at invs k 0)) k) (is_on rows (label_place p (phase_at invs k 1)) k) (is_on rows (label_place p (phase_at invs k 2)) k)

-- labels stay where only marks change
pub labels_kept : (g : Graph) (old new : Labelling) → new.invs ≡ old.invs → new.rows ≡ old.rows → AreLabelsOf old g → AreLabelsOf new g
labels_kept g old new invs rows h = record {
  states = λ k inv p s at in_p low.
      subst₂ (λ (is : List Invariant) (x : List (List Bool)). (has_state (digit_at is x k p) s ≡ true) ↔ Reached inv g p s) (sym invs) (sym rows)
      (h.states k inv p s (subst (λ (x : List Invariant). slice_get x k ≡ Some inv) invs at) in_p low);
  small = λ k p. number_small (is_found new k p 0) (is_found new k p 1) (is_found new k p 2);
}
