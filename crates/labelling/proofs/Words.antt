-- The states of many invariants, from the words of their phases.
use Rattle.std.proofs.Common.{◌≡◌, ℕ, zero, suc, ◌+◌, ◌*◌, ◌^◌, ◌<◌, ◌&&◌, ◌||◌, Bool, true, false, not, cond, eqb, List, [], ◌∷◌, length, get_or, w64, refl, ap, ap₂, ◌∙◌, arith}
use Rattle.std.specs.Prelude.{bit_and}
use Rattle.std.specs.Int.{bit_at, bit_not}
use Rattle.std.specs.Int.Bits.{bit_or}
use Rattle.invariants.specs.declared.Kind.{Kind}
use Rattle.invariants.specs.declared.Kind.TheVariants.{AF, NF, AP, IB}
use Rattle.invariants.specs.declared.Invariant.{Invariant}
use Rattle.invariants.specs.Candidates.{invariant}
use Rattle.bit_rows.proofs.Bitwise.{or_bit, and_bit, not_bit}
use Rattle.labelling.specs.declared.layout.TheConstants.{STATES}
use Rattle.labelling.specs.Labelled.{SaysSwapped}
use Rattle.labelling.specs.Layout.{is_on, label_row}
use Rattle.labelling.specs.Phases.{phase_of, phase_at}

picked : (a b m : Bool) → ((a && not m) || (b && m)) ≡ cond m b a
picked true true true = refl
picked true true false = refl
picked true false true = refl
picked true false false = refl
picked false true true = refl
picked false true false = refl
picked false false true = refl
picked false false false = refl

-- of two words a mask takes the one where its bit is off, and the other where it is on
pub taken : (one other mask k : ℕ) → mask < 2 ^ 64 → k < 64
    → eqb (bit_at (bit_or (bit_and one (bit_not w64 mask)) (bit_and other mask)) k) 1
    ≡ cond (eqb (bit_at mask k) 1) (eqb (bit_at other k) 1) (eqb (bit_at one k) 1)
taken one other mask k fits below =
    or_bit (bit_and one (bit_not w64 mask)) (bit_and other mask) k
    ∙ ap₂ (λ (x y : Bool). x || y)
    (and_bit one (bit_not w64 mask) k ∙ ap (λ (x : Bool). eqb (bit_at one k) 1 && x) (not_bit mask k fits below))
    (and_bit other mask k)
    ∙ picked (eqb (bit_at one k) 1) (eqb (bit_at other k) 1) (eqb (bit_at mask k) 1)

-- the phase of the state 0 is the one that the mask takes
zeroth_taken : (kind : Kind) (on : ℕ → Bool) → cond (eqb (phase_of kind 0) 1) (on 1) (on 0) ≡ on (phase_of kind 0)
zeroth_taken AF on = refl
zeroth_taken NF on = refl
zeroth_taken AP on = refl
zeroth_taken IB on = refl

-- and that of the state 1 the other
first_taken : (kind : Kind) (on : ℕ → Bool) → cond (eqb (phase_of kind 0) 1) (on 0) (on 1) ≡ on (phase_of kind 1)
first_taken AF on = refl
first_taken NF on = refl
first_taken AP on = refl
first_taken IB on = refl

-- the state 2 is the phase 2
second_taken : (kind : Kind) (on : ℕ → Bool) → on 2 ≡ on (phase_of kind 2)
second_taken AF on = refl
second_taken NF on = refl
second_taken AP on = refl
second_taken IB on = refl

-- the word holds the bits of 64 invariants in a row
abbrev pub HoldsRow : List (List Bool) → ℕ → ℕ → ℕ → Type 0
HoldsRow rows r place word = (i : ℕ) → i < 64 → eqb (bit_at word i) 1 ≡ is_on rows r (place * 64 + i)

module _ (bound : ℕ) (invs : List Invariant) (rows : List (List Bool)) (place p mask zeroth first second : ℕ) (fits : mask < 2 ^ 64) (swapped : SaysSwapped invs place mask)
    (has_zeroth : HoldsRow rows (label_row bound p 0) place zeroth) (has_first : HoldsRow rows (label_row bound p 1) place first) (has_second : HoldsRow rows (label_row bound p 2) place second) where
  -- two words from which the mask takes give the bits that it takes
  both_taken : (one other s t k : ℕ) → HoldsRow rows (label_row bound p s) place one → HoldsRow rows (label_row bound p t) place other → k < 64 → place * 64 + k < length invs
      → eqb (bit_at (bit_or (bit_and one (bit_not w64 mask)) (bit_and other mask)) k) 1
      ≡ cond (eqb (phase_at invs (place * 64 + k) 0) 1) (is_on rows (label_row bound p t) (place * 64 + k)) (is_on rows (label_row bound p s) (place * 64 + k))
  both_taken one other s t k has_one has_other below inside =
      taken one other mask k fits below
      ∙ ap (λ (x : Bool). cond x (eqb (bit_at other k) 1) (eqb (bit_at one k) 1)) (swapped k below inside)
      ∙ ap₂ (λ (x y : Bool). cond (eqb (phase_at invs (place * 64 + k) 0) 1) x y) (has_other k below) (has_one k below)

  -- the words of the states say what is found of each state
  pub states_told : (k s : ℕ) → k < 64 → place * 64 + k < length invs → s < STATES
      → eqb (bit_at (get_or (bit_or (bit_and zeroth (bit_not w64 mask)) (bit_and first mask) ∷ bit_or (bit_and first (bit_not w64 mask)) (bit_and zeroth mask) ∷ second ∷ []) s 0) k) 1
      ≡ is_on rows (label_row bound p (phase_at invs (place * 64 + k) s)) (place * 64 + k)
  states_told k zero below inside low =
      both_taken zeroth first 0 1 k has_zeroth has_first below inside
      ∙ zeroth_taken (get_or invs (place * 64 + k) (invariant AF 0 0)).kind (λ (s : ℕ). is_on rows (label_row bound p s) (place * 64 + k))
  states_told k (suc zero) below inside low =
      both_taken first zeroth 1 0 k has_first has_zeroth below inside
      ∙ first_taken (get_or invs (place * 64 + k) (invariant AF 0 0)).kind (λ (s : ℕ). is_on rows (label_row bound p s) (place * 64 + k))
  states_told k (suc (suc zero)) below inside low =
      has_second k below
      ∙ second_taken (get_or invs (place * 64 + k) (invariant AF 0 0)).kind (λ (s : ℕ). is_on rows (label_row bound p s) (place * 64 + k))
  states_told k (suc (suc (suc s))) below inside low = absurd (omega (arith, low))
