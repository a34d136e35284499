-- The masks, invariant by invariant.
use Rattle.std.proofs.Common.{◌≡◌, ◌≢◌, ◌⊎◌, ℕ, ◌+◌, ◌<◌, ◌≤◌, Bool, true, false, List, Some, slice_get, sym, ◌∙◌, subst, arith, inl, inr}
use Rattle.std.proofs.lemmas.Bool.{cases_eq}
use Rattle.invariants.specs.declared.Invariant.{Invariant}
use Rattle.clashes.specs.declared.places.TheConstants.{START, BAD, FIRST_MASK}
use Rattle.clashes.specs.Marks.{on}
use Rattle.clashes.specs.Rules.{enters, stays, falls, starts, is_bad_itself}
use Rattle.clashes.specs.Layout.{enters_row, stays_row, falls_row, ids_from, IsIdle, IsColumn, IsMasked, AreColumns}
use Rattle.clashes.proofs.Laid.{AreMasksOf}
use Rattle.clashes.proofs.Unnamed.{not_entered, stayed, not_fallen}

-- the masks of x are there where those of y are written, or else were there before
masked_at : (T new : List (List Bool)) (x y k : ℕ) (inv : Invariant) → IsMasked T new y k inv → (x ≢ y → AreMasksOf T x k inv x) → AreMasksOf new x k inv x
masked_at T new x y k inv m before =
    elim (cases_eq x y) [
      | inl e ↦ subst (λ (z : ℕ). AreMasksOf new z k inv z) (sym e) (record { enters = m.enters; stays = m.stays; falls = m.falls })
      | inr ne ↦
          let there : AreMasksOf T x k inv x = before ne in
          record {
            enters = m.rows (enters_row x) k (λ z. absurd (ne (omega (arith, z)))) (λ z. absurd (omega (arith, z))) (λ z. absurd (omega (arith, z))) ∙ there.enters;
            stays = m.rows (stays_row x) k (λ z. absurd (omega (arith, z))) (λ z. absurd (ne (omega (arith, z)))) (λ z. absurd (omega (arith, z))) ∙ there.stays;
            falls = m.rows (falls_row x) k (λ z. absurd (omega (arith, z))) (λ z. absurd (omega (arith, z))) (λ z. absurd (ne (omega (arith, z)))) ∙ there.falls;
          }
    ]

-- masks that say that a type does nothing are those of a type that the invariant does not name
idle_masks : (T : List (List Bool)) (n x k : ℕ) (inv : Invariant) → IsIdle T n k → x < n → x ≢ inv.a → x ≢ inv.b → AreMasksOf T x k inv x
idle_masks T n x k inv idle l not_a not_b =
    record {
      enters = idle.enters x l ∙ sym (not_entered inv x not_a not_b);
      stays = idle.stays x l ∙ sym (stayed inv x not_a not_b);
      falls = idle.falls x l ∙ sym (not_fallen inv x not_a not_b);
    }

-- the masks of x say so far that it leaves the invariant as it is, or are right already
pub record AreUsual (T : List (List Bool)) (x k : ℕ) (inv : Invariant) : Type 0 where
  pub enters : (on T (enters_row x) k ≡ false) ⊎ (on T (enters_row x) k ≡ enters inv x)
  pub stays : (on T (stays_row x) k ≡ true) ⊎ (on T (stays_row x) k ≡ stays inv x)
  pub falls : (on T (falls_row x) k ≡ false) ⊎ (on T (falls_row x) k ≡ falls inv x)

-- the masks of x say so once those of y are written
pub usual_at : (T new : List (List Bool)) (n x y k : ℕ) (inv : Invariant) → IsIdle T n k → x < n → IsMasked T new y k inv → AreUsual new x k inv
usual_at T new n x y k inv idle l m =
    elim (cases_eq x y) [
      | inl e ↦ subst (λ (z : ℕ). AreUsual new z k inv) (sym e) (record { enters = inr m.enters; stays = inr m.stays; falls = inr m.falls })
      | inr ne ↦ record {
        enters = inl (m.rows (enters_row x) k (λ z. absurd (ne (omega (arith, z)))) (λ z. absurd (omega (arith, z))) (λ z. absurd (omega (arith, z))) ∙ idle.enters x l);
        stays = inl (m.rows (stays_row x) k (λ z. absurd (omega (arith, z))) (λ z. absurd (ne (omega (arith, z)))) (λ z. absurd (omega (arith, z))) ∙ idle.stays x l);
        falls = inl (m.rows (falls_row x) k (λ z. absurd (omega (arith, z))) (λ z. absurd (omega (arith, z))) (λ z. absurd (ne (omega (arith, z)))) ∙ idle.falls x l);
      }
    ]

-- a row before the masks stays where masks are written
before_masks : (T new : List (List Bool)) (r x k : ℕ) (inv : Invariant) → IsMasked T new x k inv → r < FIRST_MASK → on new r k ≡ on T r k
before_masks T new r x k inv m l = m.rows r k (λ z. absurd (omega (arith, z, l))) (λ z. absurd (omega (arith, z, l))) (λ z. absurd (omega (arith, z, l)))

-- and so does a row of ids
pub behind_masks : (T new : List (List Bool)) (r others x k j : ℕ) (inv : Invariant) → IsMasked T new x k inv → x ≤ others → ids_from others ≤ r → on new r j ≡ on T r j
behind_masks T new r others x k j inv m low l = m.rows r j (λ z. absurd (omega (arith, z, l, low))) (λ z. absurd (omega (arith, z, l, low))) (λ z. absurd (omega (arith, z, l, low)))

-- where each type leaves an invariant as it is, it has its column once the masks of the two types that it names are written
pub column_named : (T one new : List (List Bool)) (n k : ℕ) (inv : Invariant) → IsIdle T n k → on T START k ≡ starts inv → on T BAD k ≡ is_bad_itself inv
    → IsMasked T one inv.a k inv → IsMasked one new inv.b k inv → IsColumn new n k inv
column_named T one new n k inv idle begins bad a b =
    let masks : (x : ℕ) → x < n → AreMasksOf new x k inv x = λ x l. masked_at one new x inv.b k inv b (λ not_b. masked_at T one x inv.a k inv a (λ not_a. idle_masks T n x k inv idle l not_a not_b)) in
    record {
      enters = λ x l. (masks x l).enters;
      stays = λ x l. (masks x l).stays;
      falls = λ x l. (masks x l).falls;
      starts = before_masks one new START inv.b k inv b (omega arith) ∙ before_masks T one START inv.a k inv a (omega arith) ∙ begins;
      bad = before_masks one new BAD inv.b k inv b (omega arith) ∙ before_masks T one BAD inv.a k inv a (omega arith) ∙ bad;
    }

-- a column stays where something is written at another place
column_stays : (T new : List (List Bool)) (n j k : ℕ) (inv : Invariant) → j ≢ k → ((r i : ℕ) → i ≢ k → on new r i ≡ on T r i) → IsColumn T n j inv → IsColumn new n j inv
column_stays T new n j k inv ne h c =
    record {
      enters = λ x l. h (enters_row x) j ne ∙ c.enters x l;
      stays = λ x l. h (stays_row x) j ne ∙ c.stays x l;
      falls = λ x l. h (falls_row x) j ne ∙ c.falls x l;
      starts = h START j ne ∙ c.starts;
      bad = h BAD j ne ∙ c.bad;
    }

-- with the column of one more invariant, those of one more are there
pub columns_more : (T new : List (List Bool)) (others : ℕ) (invs : List Invariant) (k : ℕ) (inv : Invariant) → slice_get invs k ≡ Some inv → AreColumns T others invs k
    → ((r i : ℕ) → i ≢ k → on new r i ≡ on T r i) → IsColumn new (others + 1) k inv → AreColumns new others invs (k + 1)
columns_more T new others invs k inv get have h c j other l get' =
    elim (cases_eq j k) [
      | inl e ↦
          let there : slice_get invs k ≡ Some other = subst (λ (i : ℕ). slice_get invs i ≡ Some other) e get' in
          let same : inv ≡ other = cc in
          subst (λ (i : ℕ). IsColumn new (others + 1) i other) (sym e) (subst (λ (v : Invariant). IsColumn new (others + 1) k v) same c)
      | inr ne ↦ column_stays T new (others + 1) j k other ne h (have j other (omega arith) get')
    ]
