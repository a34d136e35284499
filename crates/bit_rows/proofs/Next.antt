-- The first bit that is set, from a place on.
use Rattle.std.proofs.Common.{◌≡◌, ℕ, ◌+◌, ◌-◌, ◌*◌, ◌/◌, ◌%◌, ◌^◌, ◌<◌, ◌≤◌, Bool, true, false, eqb, List, length, get_or, w64, sym, ap, ap₂, ◌∙◌, arith, inl, inr}
use Rattle.std.proofs.lemmas.List.{get_or_past}
use Rattle.std.proofs.lemmas.Nat.{div_below, div-mul-add, mod-mul-add, div-add-mod', mod_below, pow_pos}
use Rattle.std.proofs.lemmas.Nat.Bits.{bit_at-zero, bit_at-trailing_zeros, bit_at_cat_low, bit_at_cat_high}
use Rattle.std.proofs.lemmas.Bool.{cases_lt, true≢false, eq-eqb}
use Rattle.std.specs.Int.{bit_at, trailing_zeros}
use Rattle.bit_rows.specs.Tables.{row_at, is_set, IsNextSet, bit_of, table_of, IsLaidOut}
use Rattle.bit_rows.specs.Written.{word}
use Rattle.bit_rows.proofs.Done.{source, row_long}

-- a word that is divided by a power of two and multiplied by it again fits 64 bits
pub high_part : (x k : ℕ) → x < 2 ^ 64 → x / 2 ^ k * 2 ^ k % 2 ^ 64 ≡ x / 2 ^ k * 2 ^ k + 0
high_part x k fits =
    let split : x / 2 ^ k * 2 ^ k + x % 2 ^ k ≡ x = div-add-mod' x (2 ^ k) in
    omega arith

-- the low bits of such a word are 0
pub low_gone : (x k i : ℕ) → x < 2 ^ 64 → i < k → bit_at (x / 2 ^ k * 2 ^ k % 2 ^ 64) i ≡ 0
low_gone x k i fits below = ap (λ y. bit_at y i) (high_part x k fits) ∙ bit_at_cat_low (x / 2 ^ k) k 0 i below ∙ bit_at-zero i

-- its other bits are those of the word
pub high_kept : (x k i : ℕ) → x < 2 ^ 64 → k ≤ i → bit_at (x / 2 ^ k * 2 ^ k % 2 ^ 64) i ≡ bit_at x i
high_kept x k i fits from =
    let split : x / 2 ^ k * 2 ^ k + x % 2 ^ k ≡ x = div-add-mod' x (2 ^ k) in
    ap (λ y. bit_at y i) (high_part x k fits) ∙ bit_at_cat_high (x / 2 ^ k) k 0 i (pow_pos k) from
    ∙ sym (ap (λ y. bit_at y i) (sym split) ∙ bit_at_cat_high (x / 2 ^ k) k (x % 2 ^ k) i (mod_below x (2 ^ k) (pow_pos k)) from)

module _ (view : List (List Bool)) (ws mid : List ℕ) (w rows bits r from : ℕ) (seen : view ≡ table_of ws w rows bits) (laid : IsLaidOut ws w rows bits) (lent : mid ≡ ws) (within : r < length view) where
  from_lent : (i : ℕ) → i < w * 64 → eqb (bit_at (word mid (r * w) (i / 64)) (i % 64)) 1 ≡ is_set (row_at view r) i
  from_lent i hi = ap (λ m. bit_of m w r i) lent ∙ source view ws w rows bits r i seen laid within hi

  -- a bit of a word is the bit of the row at its place
  pub from_word : (k j : ℕ) → k < w → j < 64 → eqb (bit_at (word mid (r * w) k) j) 1 ≡ is_set (row_at view r) (k * 64 + j)
  from_word k j hk hj =
      sym (ap₂ (λ a b. eqb (bit_at (word mid (r * w) a) b) 1) (div-mul-add k 64 j hj) (mod-mul-add k 64 j hj)) ∙ from_lent (k * 64 + j) (omega arith)

  -- the word k without what lies before the place, and none is set between
  pub next_in : (k x : ℕ) → k < w → 0 < x → x < 2 ^ 64
      → ((j : ℕ) → j < 64 → from ≤ k * 64 + j → bit_at x j ≡ bit_at (word mid (r * w) k) j)
      → ((j : ℕ) → j < 64 → k * 64 + j < from → bit_at x j ≡ 0)
      → ((i : ℕ) → from ≤ i → i < k * 64 → is_set (row_at view r) i ≡ false)
      → IsNextSet (row_at view r) from (k * 64 + trailing_zeros w64 x)
  next_in k x hk some fits same low between =
      let t : ℕ = trailing_zeros w64 x in
      let lowest = bit_at-trailing_zeros w64 x some fits in
      let small : t < 64 = lowest.0 in
      let i : ℕ = k * 64 + t in
      let behind : from ≤ i = elim (cases_lt i from) [
        | inl early ↦ absurd (omega (arith, low t small early, lowest.1))
        | inr late ↦ late
      ] in
      let here : is_set (row_at view r) i ≡ true = sym (from_word k t hk small) ∙ ap (λ y. eqb y 1) (sym (same t small behind)) ∙ eq-eqb (bit_at x t) 1 lowest.1 in
      record {
        behind = behind;
        within = elim (cases_lt i (length (row_at view r))) [
          | inl inside ↦ inside
          | inr past ↦ absurd (true≢false (sym here ∙ get_or_past (row_at view r) i false past))
        ];
        set = here;
        first = λ j after earlier. elim (cases_lt j (k * 64)) [
          | inl before ↦ between j after before
          | inr inside ↦
              let split : j / 64 * 64 + j % 64 ≡ j = div-add-mod' j 64 in
              let col : j % 64 < 64 = mod_below j 64 (omega arith) in
              let whole : k * 64 + j % 64 ≡ j = omega arith in
              let lower : j % 64 < t = omega arith in
              sym (ap (is_set (row_at view r)) whole) ∙ sym (from_word k (j % 64) hk col)
              ∙ ap (λ y. eqb y 1) (sym (same (j % 64) col (omega arith)) ∙ lowest.2 (j % 64) lower)
        ];
      }

  -- no bit is set from the place to the end of its word, nor in the words up to k
  pub none_to : (here x k : ℕ) → here ≡ from / 64 → here < w → here + 1 ≤ k → k ≤ w → x ≡ 0
      → ((j : ℕ) → from % 64 ≤ j → bit_at x j ≡ bit_at (word mid (r * w) here) j)
      → ((j : ℕ) → j < k - (here + 1) → word mid (r * w + (here + 1)) j ≡ 0)
      → (i : ℕ) → from ≤ i → i < k * 64 → is_set (row_at view r) i ≡ false
  none_to here x k at hw low high none same zeros i after below =
      let split : i / 64 * 64 + i % 64 ≡ i = div-add-mod' i 64 in
      let split_from : from / 64 * 64 + from % 64 ≡ from = div-add-mod' from 64 in
      let col : i % 64 < 64 = mod_below i 64 (omega arith) in
      let row : i / 64 < k = div_below i 64 k (omega arith) below in
      elim (cases_lt here (i / 64)) [
        | inl later ↦
            let j : ℕ = i / 64 - (here + 1) in
            let place : r * w + (here + 1) + j ≡ r * w + i / 64 = omega arith in
            sym (from_lent i (omega arith)) ∙ ap (λ p. eqb (bit_at (get_or mid p 0) (i % 64)) 1) (sym place) ∙ ap (λ y. eqb (bit_at y (i % 64)) 1) (zeros j (omega arith)) ∙ ap (λ y. eqb y 1) (bit_at-zero (i % 64))
        | inr sooner ↦
            let equal : i / 64 ≡ here = omega arith in
            sym (from_lent i (omega arith)) ∙ ap (λ p. eqb (bit_at (word mid (r * w) p) (i % 64)) 1) equal
            ∙ ap (λ y. eqb y 1) (sym (same (i % 64) (omega arith)) ∙ ap (λ y. bit_at y (i % 64)) none ∙ bit_at-zero (i % 64))
      ]

  -- past the words of a row no bit is set
  pub none_past : (i : ℕ) → w * 64 ≤ i → is_set (row_at view r) i ≡ false
  none_past i past = get_or_past (row_at view r) i false (omega (arith, row_long view ws w rows bits r seen within, laid.room))
