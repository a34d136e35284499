-- What a write leaves in the rows, place by place.
use Rattle.std.proofs.Common.{◌≡◌, ◌≢◌, ℕ, ◌<◌, ◌≤◌, ◌==◌, ◌&&◌, ◌||◌, not, Bool, true, false, List, [], Option, Some, None, length, set, replicate, refl, sym, ◌∙◌, ap, ap₂, arith, inl, inr, eq-eqb, ne_eqb}
use Rattle.std.proofs.lemmas.Bool.{cases_eq, cases_lt}
use Rattle.std.proofs.Math.Bool.{or-false, or-true}
use Rattle.std.proofs.lemmas.List.{get_or-set_same, get_or-set_other, get_or-replicate, get_or_past, length-replicate}
use Rattle.std.proofs.lemmas.Simd.{length-zip2}
use Rattle.std.specs.Prelude.{MatchOption}
use Rattle.limits.specs.declared.TheConstants.{MAX_PARTITIONS}
use Rattle.bit_rows.specs.Tables.{row_at, is_set, HasShape, IsNextSet, either, both, without}
use Rattle.bit_rows.proofs.Done.{is_set-zip2}
use Rattle.model_check.specs.declared.rows.IdRows.{IdRows}
use Rattle.model_check.specs.declared.sets.TheConstants.{ROWS}
use Rattle.model_check.specs.Rows.{cell, bit, IsNextIn}

-- no bit of an empty row is on
blank : (n k : ℕ) → is_set (replicate n false) k ≡ false
blank n k = elim (cases_lt k n) [
  | inl l ↦ get_or-replicate n k false false l
  | inr p ↦ get_or_past (replicate n false) k false (omega (arith, length-replicate n false))
]

module _ (rows : List (List Bool)) (n m r : ℕ) (shape : HasShape rows n m) (within : r < n) where
  -- the row is one of the table
  inside : r < length rows
  inside = omega (arith, shape.count)

  -- the row that is written has the bits that were written
  pub this-row : (row : List Bool) (k : ℕ) → cell (set rows r row) r k ≡ is_set row k
  this-row row k = ap (λ x. is_set x k) (get_or-set_same rows r row [] inside)

  -- a write of one row leaves all others as they are
  pub other-row : (row : List Bool) (s k : ℕ) → s ≢ r → cell (set rows r row) s k ≡ cell rows s k
  other-row row s k ne = ap (λ x. is_set x k) (get_or-set_other rows r s row [] ne)

  -- where a bit is turned on, no other bit changes
  pub put-bit : (i : ℕ) → i < m → (s k : ℕ) → cell (set rows r (set (row_at rows r) i true)) s k ≡ (cell rows s k || (r == s && i == k))
  put-bit i h s k =
      let long : length (row_at rows r) ≡ m = shape.long r within in
      let room : i < length (row_at rows r) = omega arith in
      elim (cases_eq s r) [
        | inr ne ↦ rw (ne_eqb r s (λ e. ne (sym e))) (other-row (set (row_at rows r) i true) s k ne ∙ sym (or-false (cell rows s k)))
        | inl e ↦ elim (cases_eq k i) [
          | inl f ↦
              rw (eq-eqb r s (sym e), eq-eqb i k (sym f))
              (ap₂ (λ a b. cell (set rows r (set (row_at rows r) i true)) a b) e f ∙ this-row (set (row_at rows r) i true) i
              ∙ get_or-set_same (row_at rows r) i true false room ∙ sym (or-true (cell rows s k)))
          | inr ne ↦
              rw (eq-eqb r s (sym e), ne_eqb i k (λ f. ne (sym f)))
              (ap (λ a. cell (set rows r (set (row_at rows r) i true)) a k) e ∙ this-row (set (row_at rows r) i true) k
              ∙ get_or-set_other (row_at rows r) i k true false ne ∙ sym (ap (λ a. cell rows a k) e) ∙ sym (or-false (cell rows s k)))
        ]
      ]

  -- a row that is cleared has no bit on
  pub clear-bit : (k : ℕ) → cell (set rows r (replicate (length (row_at rows r)) false)) r k ≡ false
  clear-bit k =
      this-row (replicate (length (row_at rows r)) false) k ∙ blank (length (row_at rows r)) k

  -- where a row is joined with another under a third, it has its own bits and those that both others have
  pub join-bit : (a mask k : ℕ) → a < n → mask < n → cell (set rows r (either (row_at rows r) (both (row_at rows a) (row_at rows mask)))) r k ≡ (cell rows r k || (cell rows a k && cell rows mask k))
  join-bit a mask k ha hm =
      let u : length (row_at rows r) ≡ m = shape.long r within in
      let v : length (row_at rows a) ≡ m = shape.long a ha in
      let w : length (row_at rows mask) ≡ m = shape.long mask hm in
      this-row (either (row_at rows r) (both (row_at rows a) (row_at rows mask))) k
      ∙ is_set-zip2 (λ x y. x || y) refl (row_at rows r) (both (row_at rows a) (row_at rows mask)) k (u ∙ sym (length-zip2 (λ x y. x && y) (row_at rows a) (row_at rows mask) (v ∙ sym w) ∙ v))
      ∙ ap (λ x. cell rows r k || x) (is_set-zip2 (λ x y. x && y) refl (row_at rows a) (row_at rows mask) k (v ∙ sym w))

  -- and those that the one has and the other lacks
  pub join-without-bit : (a b k : ℕ) → a < n → b < n → cell (set rows r (either (row_at rows r) (without (row_at rows a) (row_at rows b)))) r k ≡ (cell rows r k || (cell rows a k && not (cell rows b k)))
  join-without-bit a b k ha hb =
      let u : length (row_at rows r) ≡ m = shape.long r within in
      let v : length (row_at rows a) ≡ m = shape.long a ha in
      let w : length (row_at rows b) ≡ m = shape.long b hb in
      this-row (either (row_at rows r) (without (row_at rows a) (row_at rows b))) k
      ∙ is_set-zip2 (λ x y. x || y) refl (row_at rows r) (without (row_at rows a) (row_at rows b)) k (u ∙ sym (length-zip2 (λ x y. x && not y) (row_at rows a) (row_at rows b) (v ∙ sym w) ∙ v))
      ∙ ap (λ x. cell rows r k || x) (is_set-zip2 (λ x y. x && not y) refl (row_at rows a) (row_at rows b) k (v ∙ sym w))

-- in a new table no bit is on
pub no-bit : (n m r k : ℕ) → cell (replicate n (replicate m false)) r k ≡ false
no-bit n m r k =
    elim (cases_lt r n) [
      | inl l ↦ ap (λ x. is_set x k) (get_or-replicate n r (replicate m false) [] l) ∙ blank m k
      | inr p ↦ ap (λ x. is_set x k) (get_or_past (replicate n (replicate m false)) r [] (omega (arith, length-replicate n (replicate m false))))
    ]

-- an id past the last is in no row
pub none-past : (rows : IdRows) (r p : ℕ) → r < ROWS → MAX_PARTITIONS ≤ p → bit rows r p ≡ false
none-past rows r p l past =
    let long : length (row_at rows.bits r) ≡ MAX_PARTITIONS = rows.shape.long r l in
    get_or_past (row_at rows.bits r) p false (omega arith)

-- what is found in the bits of a row is its next id
pub next-in : (rows : IdRows) (r from : ℕ) (found : Option ℕ) → r < ROWS
    → MatchOption found ((k : ℕ) → from ≤ k → bit rows r k ≡ false) (IsNextSet (row_at rows.bits r) from)
    → MatchOption found ((k : ℕ) → from ≤ k → bit rows r k ≡ false) (IsNextIn rows r from)
next-in rows r from None l h = h
next-in rows r from (Some p) l h =
    let long : length (row_at rows.bits r) ≡ MAX_PARTITIONS = rows.shape.long r l in
    let inside : p < length (row_at rows.bits r) = h.within in
    record {
      behind = h.behind;
      within = omega arith;
      set = h.set;
      first = h.first;
    }
