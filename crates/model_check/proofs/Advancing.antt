-- The next set, as far as the ids in the row of a set were gone through.
use Rattle.std.proofs.Common.{◌≡◌, ◌≢◌, ◌↔◌, ℕ, ◌+◌, ◌<◌, ◌≤◌, ◌&&◌, ◌||◌, true, false, refl, sym, ◌∙◌, ap, arith, inl, inr, true≢false}
use Rattle.std.proofs.lemmas.Bool.{and_parts, cases_eq, cases_lt, or_cases, or_left, or_right}
use Rattle.limits.specs.declared.TheConstants.{MAX_PARTITIONS}
use Rattle.model_check.specs.declared.rows.IdRows.{IdRows}
use Rattle.model_check.specs.declared.sets.TheConstants.{MEMBERS, NEXT, TYPES}
use Rattle.model_check.specs.Rows.{bit}

-- an id below the bound leads to q
abbrev pub IsEnteredBelow : IdRows → ℕ → ℕ → ℕ → ℕ → Type 0
IsEnteredBelow rows set typ bound q =
    (p : ℕ) × (p < bound) × (bit rows set p ≡ true) × (bit rows p q ≡ true) × (bit rows (MEMBERS + typ) q ≡ true)

-- the other rows are as they were, and the next set has what the ids below the bound lead to
pub record IsAdvancing (old rows : IdRows) (set typ from : ℕ) : Type 0 where
  pub bound : from ≤ MAX_PARTITIONS
  pub others : (r k : ℕ) → r ≢ NEXT → bit rows r k ≡ bit old r k
  pub next : (q : ℕ) → (bit rows NEXT q ≡ true) ↔ IsEnteredBelow old set typ from q

-- so it is before any id, where the next set is empty
pub advance_none : (old rows : IdRows) (set typ : ℕ) → ((r k : ℕ) → r ≢ NEXT → bit rows r k ≡ bit old r k)
    → ((k : ℕ) → bit rows NEXT k ≡ false) → IsAdvancing old rows set typ 0
advance_none old rows set typ others blank =
    record {
      bound = omega arith;
      others = others;
      next = λ q. (λ e. absurd (true≢false (sym e ∙ blank q)), λ o. absurd (let l : o.0 < 0 = o.1 in omega arith));
    }

-- and so it is past the next id of the set, once its row is joined to the next set
pub advance_more : (old rows new : IdRows) (set typ from p : ℕ) → set ≢ NEXT → p < MAX_PARTITIONS → from ≤ p → typ < TYPES
    → ((r k : ℕ) → r ≢ NEXT → bit new r k ≡ bit rows r k)
    → ((k : ℕ) → bit new NEXT k ≡ (bit rows NEXT k || (bit rows p k && bit rows (MEMBERS + typ) k)))
    → bit rows set p ≡ true → ((k : ℕ) → from ≤ k → k < p → bit rows set k ≡ false)
    → IsAdvancing old rows set typ from → IsAdvancing old new set typ (p + 1)
advance_more old rows new set typ from p apart within behind small others joined on first a =
    record {
      bound = omega arith;
      others = λ r k l. others r k l ∙ a.others r k l;
      next = λ q. (
        λ e. elim (or_cases (bit rows NEXT q) (bit rows p q && bit rows (MEMBERS + typ) q) (sym (joined q) ∙ e)) [
          | inl b ↦
              let o : IsEnteredBelow old set typ from q = (a.next q).0 b in
              let below : o.0 < from = o.1 in
              let l : o.0 < p + 1 = omega arith in
              (o.0, l, o.2, o.3, o.4)
          | inr b ↦
              let both = and_parts (bit rows p q) (bit rows (MEMBERS + typ) q) b in
              (p, omega arith, sym (a.others set p apart) ∙ on, sym (a.others p q (omega arith)) ∙ both.0, sym (a.others (MEMBERS + typ) q (omega arith)) ∙ both.1)
        ],
        λ o. joined q ∙ elim (cases_lt o.0 from) [
          | inl l ↦ or_left (bit rows NEXT q) (bit rows p q && bit rows (MEMBERS + typ) q) ((a.next q).1 (o.0, l, o.2, o.3, o.4))
          | inr g ↦ elim (cases_eq o.0 p) [
            | inl e ↦
                let x : bit rows p q ≡ true = a.others p q (omega arith) ∙ sym (ap (λ z. bit old z q) e) ∙ o.3 in
                let y : bit rows (MEMBERS + typ) q ≡ true = a.others (MEMBERS + typ) q (omega arith) ∙ o.4 in
                or_right (bit rows NEXT q) (bit rows p q && bit rows (MEMBERS + typ) q) (rw (x, y) refl)
            | inr n ↦ absurd (let l : o.0 < p + 1 = o.1 in true≢false (sym o.2 ∙ sym (a.others set o.0 apart) ∙ first o.0 g (omega arith)))
          ]
        ],
      );
    }
