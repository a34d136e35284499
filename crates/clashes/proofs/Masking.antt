-- The bits of one invariant: the three masks of a type, and what is told of the two ends.
use Rattle.std.proofs.Common.{◌≡◌, ◌≢◌, ◌⊎◌, ℕ, ◌<◌, ◌≤◌, Bool, false, List, [], length, slice_set, arith, ap, sym, ◌∙◌, subst, inl, inr}
use Rattle.std.proofs.lemmas.Bool.{cases_eq}
use Rattle.std.proofs.lemmas.List.{get_or-set_same, get_or-set_other}
use Rattle.bit_rows.specs.Tables.{row_at, is_set, HasShape}
use Rattle.invariants.specs.declared.Invariant.{Invariant}
use Rattle.clashes.specs.declared.places.TheConstants.{START, BAD, FIRST_MASK}
use Rattle.clashes.specs.Layout.{enters_row, stays_row, falls_row, row_count, IsMasked}
use Rattle.clashes.specs.Marks.{on}
use Rattle.clashes.specs.Rules.{enters, stays, falls}

-- each row of the table has the place k
pub in_table : (T : List (List Bool)) (rows bits r k : ℕ) → k < bits → HasShape T rows bits → r < rows → (r < length T) × (k < length (row_at T r))
in_table T rows bits r k k_in shape r_in = (omega (arith, shape.count, r_in), omega (arith, shape.long r r_in, k_in))

-- one bit is written
pub one_bit : (T new : List (List Bool)) (rows bits r k : ℕ) (bit : Bool) → k < bits → HasShape T rows bits → r < rows → new ≡ slice_set T r (slice_set (row_at T r) k bit)
    → (on new r k ≡ bit) × ((s j : ℕ) → (s ≡ r → j ≡ k → ⊥) → on new s j ≡ on T s j)
one_bit T new rows bits r k bit k_in shape r_in is =
    let inside = in_table T rows bits r k k_in shape r_in in
    let row : row_at new r ≡ slice_set (row_at T r) k bit = ap (λ (t : List (List Bool)). row_at t r) is ∙ get_or-set_same T r (slice_set (row_at T r) k bit) [] inside.0 in (
      ap (λ (xs : List Bool). is_set xs k) row ∙ get_or-set_same (row_at T r) k bit false inside.1,
      λ s j other. elim (cases_eq s r) [
        | inl e ↦
            subst (λ (i : ℕ). on new i j ≡ on T i j) (sym e)
            (ap (λ (xs : List Bool). is_set xs j) row ∙ get_or-set_other (row_at T r) k j bit false (λ f. other e f))
        | inr far ↦ ap (λ (t : List (List Bool)). on t s j) is ∙ ap (λ (xs : List Bool). is_set xs j) (get_or-set_other T r s (slice_set (row_at T r) k bit) [] far)
      ],
    )

-- a bit that is as usual, or what it is to be, is so still where another one is written
pub so_far_kept : (T new : List (List Bool)) (r k : ℕ) (bit usual : Bool) → on new r k ≡ on T r k → (on T r k ≡ usual) ⊎ (on T r k ≡ bit) → (on new r k ≡ usual) ⊎ (on new r k ≡ bit)
so_far_kept T new r k bit usual same so_far = elim so_far [ inl e ↦ inl (same ∙ e) | inr e ↦ inr (same ∙ e) ]

-- all three are written
pub three_bits : (old a b new : List (List Bool)) (others bits x k : ℕ) (inv : Invariant) → x ≤ others → k < bits → HasShape old (row_count others) bits → HasShape a (row_count others) bits → HasShape b (row_count others) bits
    → a ≡ slice_set old (enters_row x) (slice_set (row_at old (enters_row x)) k (enters inv x)) → b ≡ slice_set a (stays_row x) (slice_set (row_at a (stays_row x)) k (stays inv x))
    → new ≡ slice_set b (falls_row x) (slice_set (row_at b (falls_row x)) k (falls inv x)) → IsMasked old new x k inv
three_bits old a b new others bits x k inv low k_in s t u p q r =
    let first = one_bit old a (row_count others) bits (enters_row x) k (enters inv x) k_in s (omega (arith, low)) p in
    let second = one_bit a b (row_count others) bits (stays_row x) k (stays inv x) k_in t (omega (arith, low)) q in
    let third = one_bit b new (row_count others) bits (falls_row x) k (falls inv x) k_in u (omega (arith, low)) r in
    record {
      enters = third.1 (enters_row x) k (λ e f. absurd (omega (arith, e))) ∙ second.1 (enters_row x) k (λ e f. absurd (omega (arith, e))) ∙ first.0;
      stays = third.1 (stays_row x) k (λ e f. absurd (omega (arith, e))) ∙ second.0;
      falls = third.0;
      places = λ i j ne. third.1 i j (λ e f. ne f) ∙ second.1 i j (λ e f. ne f) ∙ first.1 i j (λ e f. ne f);
      rows = λ i j not_enters not_stays not_falls. third.1 i j (λ e f. not_falls e) ∙ second.1 i j (λ e f. not_stays e) ∙ first.1 i j (λ e f. not_enters e);
    }

-- the bits of START and BAD at the place k are these, and masks and other places stay
pub record AreEndsPut (old new : List (List Bool)) (k : ℕ) (begins ends : Bool) : Type 0 where
  pub starts : on new START k ≡ begins
  pub bad : on new BAD k ≡ ends
  pub masks : (r j : ℕ) → FIRST_MASK ≤ r → on new r j ≡ on old r j
  pub places : (r j : ℕ) → j ≢ k → on new r j ≡ on old r j

-- both bits are written
pub ends_put : (old a new : List (List Bool)) (others bits k : ℕ) (begins ends : Bool) → k < bits → HasShape old (row_count others) bits → HasShape a (row_count others) bits
    → a ≡ slice_set old START (slice_set (row_at old START) k begins) → new ≡ slice_set a BAD (slice_set (row_at a BAD) k ends) → AreEndsPut old new k begins ends
ends_put old a new others bits k begins ends k_in s t p q =
    let first = one_bit old a (row_count others) bits START k begins k_in s (omega arith) p in
    let second = one_bit a new (row_count others) bits BAD k ends k_in t (omega arith) q in
    record {
      starts = second.1 START k (λ e f. absurd (omega (arith, e))) ∙ first.0;
      bad = second.0;
      masks = λ r j l. second.1 r j (λ e f. absurd (omega (arith, e, l))) ∙ first.1 r j (λ e f. absurd (omega (arith, e, l)));
      places = λ r j ne. second.1 r j (λ e f. ne f) ∙ first.1 r j (λ e f. ne f);
    }
