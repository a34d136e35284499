-- Rows that say of types that they leave invariants as they are.
use Rattle.std.proofs.Common.{◌≡◌, ◌≢◌, ℕ, ◌+◌, ◌<◌, ◌≤◌, Bool, true, false, List, set, sym, ap, ◌∙◌, subst, arith, inl, inr}
use Rattle.std.proofs.lemmas.Bool.{cases_eq}
use Rattle.bit_rows.specs.Tables.{row_at, is_set, HasShape}
use Rattle.clashes.specs.declared.places.TheConstants.{FIRST_MASK}
use Rattle.clashes.specs.Marks.{on}
use Rattle.clashes.specs.Layout.{enters_row, stays_row, falls_row, ids_from, row_count, IsIdle}
use Rattle.clashes.proofs.Bits.{set_here, set_other}

-- the rows say so far that the last type, and those below n, leave the first invariants as they are, and nothing of ends
-- or ids
pub record AreIdleBelow (rows : List (List Bool)) (others n count : ℕ) : Type 0 where
  pub last : (k : ℕ) → k < count → on rows (stays_row others) k ≡ true
  pub stays : (x k : ℕ) → x < n → k < count → on rows (stays_row x) k ≡ true
  pub enters : (x k : ℕ) → on rows (enters_row x) k ≡ false
  pub falls : (x k : ℕ) → on rows (falls_row x) k ≡ false
  pub blank : (r k : ℕ) → r < FIRST_MASK → on rows r k ≡ false
  pub ids : (r k : ℕ) → ids_from others ≤ r → on rows r k ≡ false

-- where nothing was on, and then one row is turned on, the rows say so of the last type
pub idle_begun : (T new : List (List Bool)) (others count last : ℕ) → last ≡ stays_row others → ((r k : ℕ) → on T r k ≡ false) → ((k : ℕ) → k < count → on new last k ≡ true)
    → ((s k : ℕ) → s ≢ last → on new s k ≡ on T s k) → AreIdleBelow new others 0 count
idle_begun T new others count last at blank here rest =
    record {
      last = λ k l. subst (λ (r : ℕ). on new r k ≡ true) at (here k l);
      stays = λ x k none l. absurd (omega (arith, none));
      enters = λ x k. rest (enters_row x) k (λ z. absurd (omega (arith, z, at))) ∙ blank (enters_row x) k;
      falls = λ x k. rest (falls_row x) k (λ z. absurd (omega (arith, z, at))) ∙ blank (falls_row x) k;
      blank = λ r k before. rest r k (λ z. absurd (omega (arith, z, at, before))) ∙ blank r k;
      ids = λ r k behind. rest r k (λ z. absurd (omega (arith, z, at, behind))) ∙ blank r k;
    }

-- where the row of the last type is copied, the rows say so of one more type
pub idle_more : (T new : List (List Bool)) (others bits n count to from : ℕ) → HasShape T (row_count others) bits → n < others → to ≡ stays_row n → from ≡ stays_row others
    → new ≡ set T to (row_at T from) → AreIdleBelow T others n count → AreIdleBelow new others (n + 1) count
idle_more T new others bits n count to from shape low there at is h =
    let here : (k : ℕ) → on new to k ≡ on T from k = λ k. ap (λ (row : List Bool). is_set row k) (set_here T new to (row_at T from) (omega (arith, shape.count, there, low)) is) in
    let rest : (r k : ℕ) → r ≢ to → on new r k ≡ on T r k = λ r k ne. ap (λ (row : List Bool). is_set row k) (set_other T new to r (row_at T from) ne is) in
    record {
      last = λ k l. rest (stays_row others) k (λ z. absurd (omega (arith, z, there, low))) ∙ h.last k l;
      stays = λ x k below l. elim (cases_eq x n) [
        | inl e ↦ ap (λ (y : ℕ). on new (stays_row y) k) e ∙ ap (λ (r : ℕ). on new r k) (sym there) ∙ here k ∙ ap (λ (r : ℕ). on T r k) at ∙ h.last k l
        | inr ne ↦ rest (stays_row x) k (λ z. absurd (ne (omega (arith, z, there)))) ∙ h.stays x k (omega (arith, below, ne)) l
      ];
      enters = λ x k. rest (enters_row x) k (λ z. absurd (omega (arith, z, there))) ∙ h.enters x k;
      falls = λ x k. rest (falls_row x) k (λ z. absurd (omega (arith, z, there))) ∙ h.falls x k;
      blank = λ r k before. rest r k (λ z. absurd (omega (arith, z, there, before))) ∙ h.blank r k before;
      ids = λ r k behind. rest r k (λ z. absurd (omega (arith, z, there, behind, low))) ∙ h.ids r k behind;
    }

-- with all types below the last, the rows say so of each type
pub idle_done : (T : List (List Bool)) (others n count k : ℕ) → others ≤ n → AreIdleBelow T others n count → k < count → IsIdle T (others + 1) k
idle_done T others n count k all h l =
    record {
      enters = λ x b. h.enters x k;
      stays = λ x b. elim (cases_eq x others) [
        | inl e ↦ ap (λ (y : ℕ). on T (stays_row y) k) e ∙ h.last k l
        | inr ne ↦ h.stays x k (omega (arith, b, ne, all)) l
      ];
      falls = λ x b. h.falls x k;
    }

-- where the masks stay at a place, they say so as before
pub idle_same : (T new : List (List Bool)) (n k : ℕ) → ((r : ℕ) → FIRST_MASK ≤ r → on new r k ≡ on T r k) → IsIdle T n k → IsIdle new n k
idle_same T new n k same h =
    record {
      enters = λ x l. same (enters_row x) (omega arith) ∙ h.enters x l;
      stays = λ x l. same (stays_row x) (omega arith) ∙ h.stays x l;
      falls = λ x l. same (falls_row x) (omega arith) ∙ h.falls x l;
    }
