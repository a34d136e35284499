-- What each operation leaves, from what its loop leaves.
use Rattle.std.proofs.Common.{◌≡◌, ◌≢◌, ℕ, ◌+◌, ◌*◌, ◌/◌, ◌%◌, ◌^◌, ◌<◌, ◌≤◌, Bool, true, false, not, ◌&&◌, ◌||◌, cond, eqb, List, [], length, get_or, set, replicate, w64, refl, sym, ap, ap₂, ◌∙◌, subst, arith, inl, inr}
use Rattle.std.proofs.lemmas.List.{length-set, get_or-set_same, get_or-set_other, set-get_or, same_lists, get_or-replicate, length-replicate, get_or_default, get_or_past}
use Rattle.std.proofs.lemmas.List.FromFn.{get_or-map-range_with_len}
use Rattle.std.proofs.lemmas.Nat.{div_below, row_fits, div-mul-add, mod-mul-add, div-add-mod', mod_below}
use Rattle.std.proofs.lemmas.Nat.Bits.{bit_at-zero, bit_at-trailing_zeros}
use Rattle.std.proofs.lemmas.Bool.{cases_eq, cases_lt, true≢false, eq-eqb}
use Rattle.std.proofs.lemmas.Simd.{length-zip2, get_or-zip2}
use Rattle.std.specs.Int.{bit_at, bit_not, trailing_zeros}
use Rattle.std.specs.Int.Bits.{bit_or}
use lib.Bits.{bit_and}
use lib.Lanes.{zip2}
use Rattle.bit_rows.specs.Tables.{row_at, is_set, HasShape, IsBlank, IsFirstSet, either, both, without, bit_of, row_of, table_of, IsLaidOut}
use Rattle.bit_rows.specs.Written.{word, AllFit, IsWritten, TellsChange}
use Rattle.bit_rows.proofs.Bitwise.{same_words, or_bit, and_bit, not_bit}
use Rattle.bit_rows.proofs.Tabled.{length-table_of, length-row_of, row_at-table_of, is_set-table_of, same_table, this_row, other_row, written_layout, written_table}

module _ (op : Bool → Bool → Bool) (off : op false false ≡ false) where
  -- a bit of two rows joined place by place, also past their ends
  pub is_set-zip2 : (xs ys : List Bool) (i : ℕ) → length xs ≡ length ys → is_set (zip2 op xs ys) i ≡ op (is_set xs i) (is_set ys i)
  is_set-zip2 xs ys i long = elim (cases_lt i (length xs)) [
    | inl below ↦ get_or-zip2 op xs ys i false false false below (omega arith)
    | inr past ↦
        get_or_past (zip2 op xs ys) i false (omega (arith, length-zip2 op xs ys long)) ∙ sym off
        ∙ sym (ap₂ op (get_or_past xs i false past) (get_or_past ys i false (omega arith)))
  ]

-- an index within the table is the index of a row
pub row_below : (view : List (List Bool)) (ws : List ℕ) (w rows bits r : ℕ) → view ≡ table_of ws w rows bits → r < length view → r < rows
row_below view ws w rows bits r seen h = omega (arith, ap length seen, length-table_of ws w rows bits)

-- each row has the same number of bits
pub row_long : (view : List (List Bool)) (ws : List ℕ) (w rows bits r : ℕ) → view ≡ table_of ws w rows bits → r < length view → length (row_at view r) ≡ bits
row_long view ws w rows bits r seen h =
    ap (λ v. length (row_at v r)) seen ∙ ap length (row_at-table_of ws w rows bits r (row_below view ws w rows bits r seen h)) ∙ length-row_of ws w bits r

-- the words of a row hold its bits
pub source : (view : List (List Bool)) (ws : List ℕ) (w rows bits r i : ℕ) → view ≡ table_of ws w rows bits → IsLaidOut ws w rows bits → r < length view → i < w * 64 → bit_of ws w r i ≡ is_set (row_at view r) i
source view ws w rows bits r i seen laid hr hi =
    let within = row_below view ws w rows bits r seen hr in
    elim (cases_lt i bits) [
      | inl below ↦ sym (ap (λ v. is_set (row_at v r) i) seen ∙ is_set-table_of ws w rows bits r i within below)
      | inr past ↦ laid.blank r i within past hi ∙ sym (get_or_past (row_at view r) i false (omega (arith, row_long view ws w rows bits r seen hr)))
    ]

-- the words of a row stand within the words of all rows
pub row_room : (view : List (List Bool)) (ws : List ℕ) (w rows bits r : ℕ) → view ≡ table_of ws w rows bits → r < length view → r * w + w ≤ rows * w
row_room view ws w rows bits r seen h = row_fits r w rows w (row_below view ws w rows bits r seen h) (omega arith)

-- the place of a bit lies within the words of its row
pub place_wide : (view : List (List Bool)) (ws : List ℕ) (w rows bits r i : ℕ) → view ≡ table_of ws w rows bits → IsLaidOut ws w rows bits → r < length view → i < length (row_at view r) → i < w * 64
place_wide view ws w rows bits r i seen laid h hi = omega (arith, row_long view ws w rows bits r seen h, laid.room)

-- a row is exchanged for one as long
set_shape : (view : List (List Bool)) (to n m : ℕ) (row : List Bool) → to < length view → length row ≡ length (row_at view to) → HasShape view n m → HasShape (set view to row) n m
set_shape view to n m row within long h = record {
  count = length-set view to row ∙ h.count;
  long = λ r below. elim (cases_eq r to) [
    | inl same ↦
        ap (λ k. length (row_at (set view to row) k)) same ∙ ap length (get_or-set_same view to row [] within) ∙ long
        ∙ sym (ap (λ k. length (row_at view k)) same) ∙ h.long r below
    | inr other ↦ ap length (get_or-set_other view to r row [] other) ∙ h.long r below
  ];
}

-- rows that are made have the shape that was asked for
pub made_shape : (rows bits : ℕ) (table : List (List Bool)) → table ≡ replicate rows (replicate bits false) → HasShape table rows bits
made_shape rows bits table is = record {
  count = ap length is ∙ length-replicate rows (replicate bits false);
  long = λ r below. ap (λ t. length (row_at t r)) is ∙ ap length (get_or-replicate rows r (replicate bits false) [] below) ∙ length-replicate bits false;
}

-- the words hold the table with the new row, laid out as before, and the shape stays
pub record IsDone (view : List (List Bool)) (w rows bits to : ℕ) (row : List Bool) (final : List ℕ) : Type 0 where
  pub laid : IsLaidOut final w rows bits
  pub table : table_of final w rows bits ≡ set view to row
  pub shape : (n m : ℕ) → HasShape view n m → HasShape (table_of final w rows bits) n m

module _ (view : List (List Bool)) (ws mid new final : List ℕ) (w rows bits to : ℕ) (seen : view ≡ table_of ws w rows bits) (laid : IsLaidOut ws w rows bits) (lent : mid ≡ ws) (kept : final ≡ new) (within : to < length view) where
  seen_mid : view ≡ table_of mid w rows bits
  seen_mid = seen ∙ sym (ap (λ m. table_of m w rows bits) lent)

  laid_mid : IsLaidOut mid w rows bits
  laid_mid = subst (λ m. IsLaidOut m w rows bits) (sym lent) laid

  to_in : to < rows
  to_in = row_below view ws w rows bits to seen within

  from_mid : (r i : ℕ) → r < length view → i < w * 64 → bit_of mid w r i ≡ is_set (row_at view r) i
  from_mid r i hr hi = source view mid w rows bits r i seen_mid laid_mid hr hi

  long_mid : (r : ℕ) → r < length view → length (row_at view r) ≡ bits
  long_mid r hr = row_long view mid w rows bits r seen_mid hr

  -- a write of words with the bits of a row makes it the new row
  pub written_done : (given : ℕ → ℕ) (row : List Bool) → IsWritten mid new (to * w) w given → length row ≡ bits
      → ((i : ℕ) → i < w * 64 → eqb (bit_at (given (i / 64)) (i % 64)) 1 ≡ is_set row i) → IsDone view w rows bits to row final
  written_done given row h long digits =
      let blank : (i : ℕ) → bits ≤ i → i < w * 64 → eqb (bit_at (given (i / 64)) (i % 64)) 1 ≡ false = λ i from below. digits i below ∙ get_or_past row i false (omega arith) in
      let table : table_of final w rows bits ≡ set view to row =
      ap (λ m. table_of m w rows bits) kept ∙ written_table mid new w rows bits to given row laid_mid to_in h long (λ i below. digits i (omega (arith, laid.room))) ∙ ap (λ v. set v to row) (sym seen_mid) in
      record {
        laid = subst (λ m. IsLaidOut m w rows bits) (sym kept) (written_layout mid new w rows bits to given laid_mid h blank);
        table = table;
        shape = λ n m had. subst (λ t. HasShape t n m) (sym table) (set_shape view to n m row within (long ∙ sym (long_mid to within)) had);
      }

  -- a row that is cleared has no bit set
  pub clear_done : IsWritten mid new (to * w) w (λ _. 0) → IsDone view w rows bits to (replicate (length (row_at view to)) false) final
  clear_done h = written_done (λ _. 0) (replicate (length (row_at view to)) false) h (length-replicate (length (row_at view to)) false ∙ long_mid to within) (λ i below.
      ap (λ x. eqb x 1) (bit_at-zero (i % 64)) ∙ elim (cases_lt i (length (row_at view to))) [
        | inl inside ↦ sym (get_or-replicate (length (row_at view to)) i false false inside)
        | inr past ↦ sym (get_or_past (replicate (length (row_at view to)) false) i false (omega (arith, length-replicate (length (row_at view to)) false)))
      ])

  -- a row that is copied over is the row it was copied from
  pub copy_done : (from : ℕ) → from < length view → IsWritten mid new (to * w) w (word mid (from * w)) → IsDone view w rows bits to (row_at view from) final
  copy_done from hf h = written_done (word mid (from * w)) (row_at view from) h (long_mid from hf) (λ i below. from_mid from i hf below)

  same_long : (a b : ℕ) → a < length view → b < length view → length (row_at view a) ≡ length (row_at view b)
  same_long a b ha hb = long_mid a ha ∙ sym (long_mid b hb)

  -- a row that takes up another has the bits of both
  pub or_done : (from : ℕ) → from < length view → IsWritten mid new (to * w) w (λ k. bit_or (word mid (to * w) k) (word mid (from * w) k))
      → IsDone view w rows bits to (either (row_at view to) (row_at view from)) final
  or_done from hf h = written_done _ (either (row_at view to) (row_at view from)) h (length-zip2 (λ x y. x || y) (row_at view to) (row_at view from) (same_long to from within hf) ∙ long_mid to within) (λ i below.
      or_bit (word mid (to * w) (i / 64)) (word mid (from * w) (i / 64)) (i % 64)
      ∙ ap₂ (λ x y. x || y) (from_mid to i within below) (from_mid from i hf below)
      ∙ sym (is_set-zip2 (λ x y. x || y) refl (row_at view to) (row_at view from) i (same_long to from within hf)))

  -- a row that is met with another keeps what both have
  pub and_done : (from : ℕ) → from < length view → IsWritten mid new (to * w) w (λ k. bit_and (word mid (to * w) k) (word mid (from * w) k))
      → IsDone view w rows bits to (both (row_at view to) (row_at view from)) final
  and_done from hf h = written_done _ (both (row_at view to) (row_at view from)) h (length-zip2 (λ x y. x && y) (row_at view to) (row_at view from) (same_long to from within hf) ∙ long_mid to within) (λ i below.
      and_bit (word mid (to * w) (i / 64)) (word mid (from * w) (i / 64)) (i % 64)
      ∙ ap₂ (λ x y. x && y) (from_mid to i within below) (from_mid from i hf below)
      ∙ sym (is_set-zip2 (λ x y. x && y) refl (row_at view to) (row_at view from) i (same_long to from within hf)))

  -- the digits of a word without those of another
  without_digit : (a b i : ℕ) → a < length view → b < length view → i < w * 64 → AllFit mid
      → eqb (bit_at (bit_and (word mid (a * w) (i / 64)) (bit_not w64 (word mid (b * w) (i / 64)))) (i % 64)) 1 ≡ (is_set (row_at view a) i && not (is_set (row_at view b) i))
  without_digit a b i ha hb below fits =
      and_bit (word mid (a * w) (i / 64)) (bit_not w64 (word mid (b * w) (i / 64))) (i % 64)
      ∙ ap₂ (λ x y. x && y) (from_mid a i ha below) (not_bit (word mid (b * w) (i / 64)) (i % 64) (fits (b * w + i / 64)) (mod_below i 64 (omega arith)) ∙ ap not (from_mid b i hb below))

  -- a row that another is taken from keeps what that one has not
  pub and_not_done : (from : ℕ) → from < length view → AllFit mid → IsWritten mid new (to * w) w (λ k. bit_and (word mid (to * w) k) (bit_not w64 (word mid (from * w) k)))
      → IsDone view w rows bits to (without (row_at view to) (row_at view from)) final
  and_not_done from hf fits h = written_done _ (without (row_at view to) (row_at view from)) h (length-zip2 (λ x y. x && not y) (row_at view to) (row_at view from) (same_long to from within hf) ∙ long_mid to within) (λ i below.
      without_digit to from i within hf below fits
      ∙ sym (is_set-zip2 (λ x y. x && not y) refl (row_at view to) (row_at view from) i (same_long to from within hf)))

  -- a row takes up what two others have in common
  pub or_and_done : (a b : ℕ) → a < length view → b < length view → IsWritten mid new (to * w) w (λ k. bit_or (word mid (to * w) k) (bit_and (word mid (a * w) k) (word mid (b * w) k)))
      → IsDone view w rows bits to (either (row_at view to) (both (row_at view a) (row_at view b))) final
  or_and_done a b ha hb h =
      let part = length-zip2 (λ x y. x && y) (row_at view a) (row_at view b) (same_long a b ha hb) in
      let long = same_long to a within ha ∙ sym part in
      written_done _ (either (row_at view to) (both (row_at view a) (row_at view b))) h (length-zip2 (λ x y. x || y) (row_at view to) (both (row_at view a) (row_at view b)) long ∙ long_mid to within) (λ i below.
      or_bit (word mid (to * w) (i / 64)) (bit_and (word mid (a * w) (i / 64)) (word mid (b * w) (i / 64))) (i % 64)
      ∙ ap₂ (λ x y. x || y) (from_mid to i within below)
      (and_bit (word mid (a * w) (i / 64)) (word mid (b * w) (i / 64)) (i % 64) ∙ ap₂ (λ x y. x && y) (from_mid a i ha below) (from_mid b i hb below)
      ∙ sym (is_set-zip2 (λ x y. x && y) refl (row_at view a) (row_at view b) i (same_long a b ha hb)))
      ∙ sym (is_set-zip2 (λ x y. x || y) refl (row_at view to) (both (row_at view a) (row_at view b)) i long))

  -- a row takes up what one other has and another has not
  pub or_and_not_done : (a b : ℕ) → a < length view → b < length view → AllFit mid → IsWritten mid new (to * w) w (λ k. bit_or (word mid (to * w) k) (bit_and (word mid (a * w) k) (bit_not w64 (word mid (b * w) k))))
      → IsDone view w rows bits to (either (row_at view to) (without (row_at view a) (row_at view b))) final
  or_and_not_done a b ha hb fits h =
      let part = length-zip2 (λ x y. x && not y) (row_at view a) (row_at view b) (same_long a b ha hb) in
      let long = same_long to a within ha ∙ sym part in
      written_done _ (either (row_at view to) (without (row_at view a) (row_at view b))) h (length-zip2 (λ x y. x || y) (row_at view to) (without (row_at view a) (row_at view b)) long ∙ long_mid to within) (λ i below.
      or_bit (word mid (to * w) (i / 64)) (bit_and (word mid (a * w) (i / 64)) (bit_not w64 (word mid (b * w) (i / 64)))) (i % 64)
      ∙ ap₂ (λ x y. x || y) (from_mid to i within below)
      (without_digit a b i ha hb below fits
      ∙ sym (is_set-zip2 (λ x y. x && not y) refl (row_at view a) (row_at view b) i (same_long a b ha hb)))
      ∙ sym (is_set-zip2 (λ x y. x || y) refl (row_at view to) (without (row_at view a) (row_at view b)) i long))

  -- where no word changed the table stays
  pub told_none : (given : ℕ → ℕ) (changed : Bool) → IsWritten mid new (to * w) w given → TellsChange w given (word mid (to * w)) changed → changed ≡ false → table_of final w rows bits ≡ view
  told_none given changed h tells off =
      ap (λ m. table_of m w rows bits) kept
      ∙ same_table mid new w rows bits (λ r i hr hi.
      let room : i < w * 64 = omega (arith, laid.room) in
      elim (cases_eq r to) [
        | inl same ↦
            ap (λ s. bit_of new w s i) same ∙ this_row mid new w to i given h room
            ∙ ap (λ x. eqb (bit_at x (i % 64)) 1) (tells.none off (i / 64) (div_below i 64 w (omega arith) room))
            ∙ sym (ap (λ s. bit_of mid w s i) same)
        | inr ne ↦ other_row mid new w to r i given h ne room
      ])
      ∙ sym seen_mid

  -- where a word changed the table does not stay
  pub told_some : (given : ℕ → ℕ) (changed : Bool) → IsWritten mid new (to * w) w given → IsLaidOut final w rows bits → AllFit mid → AllFit new
      → TellsChange w given (word mid (to * w)) changed → changed ≡ true → table_of final w rows bits ≡ view → ⊥
  told_some given changed h laid_final fits fits_new tells on same =
      let p = tells.some on in
      let k : ℕ = p.0 in
      let below : k < w = p.1 in
      let is : word new (to * w) k ≡ given k = h.inside k below in
      let laid_new : IsLaidOut new w rows bits = subst (λ m. IsLaidOut m w rows bits) kept laid_final in
      let seen_new : view ≡ table_of new w rows bits = sym same ∙ ap (λ m. table_of m w rows bits) kept in
      p.2 (sym is ∙ same_words (word new (to * w) k) (word mid (to * w) k) (fits_new (to * w + k)) (fits (to * w + k)) (λ j hj.
      let i : ℕ = k * 64 + j in
      let row : i / 64 ≡ k = div-mul-add k 64 j hj in
      let col : i % 64 ≡ j = mod-mul-add k 64 j hj in
      let room : i < w * 64 = omega arith in
      let one = source view new w rows bits to i seen_new laid_new within room in
      let other = from_mid to i within room in
      let at : (m : List ℕ) → bit_of m w to i ≡ eqb (bit_at (word m (to * w) k) j) 1 = λ m. ap₂ (λ x y. eqb (bit_at (get_or m (to * w + x) 0) y) 1) row col in
      sym (at new) ∙ one ∙ sym other ∙ at mid))

module _ (view : List (List Bool)) (ws mid : List ℕ) (w rows bits r k : ℕ) (seen : view ≡ table_of ws w rows bits) (laid : IsLaidOut ws w rows bits) (lent : mid ≡ ws) (within : r < length view)
    (before : (j : ℕ) → j < k → word mid (r * w) j ≡ 0) where
  from_lent : (i : ℕ) → i < w * 64 → eqb (bit_at (word mid (r * w) (i / 64)) (i % 64)) 1 ≡ is_set (row_at view r) i
  from_lent i hi = ap (λ m. bit_of m w r i) lent ∙ source view ws w rows bits r i seen laid within hi

  blank_before : (i : ℕ) → i < w * 64 → i / 64 < k → is_set (row_at view r) i ≡ false
  blank_before i hi early =
      sym (from_lent i hi) ∙ ap (λ x. eqb (bit_at x (i % 64)) 1) (before (i / 64) early) ∙ ap (λ x. eqb x 1) (bit_at-zero (i % 64))

  -- where all words of a row are 0, all its bits are false
  pub no_set : k ≡ w → IsBlank (row_at view r)
  no_set all i = elim (cases_lt i (w * 64)) [
    | inl below ↦ blank_before i below (omega (arith, div_below i 64 w (omega arith) below))
    | inr past ↦ get_or_past (row_at view r) i false (omega (arith, row_long view ws w rows bits r seen within, laid.room))
  ]

  -- the lowest bit of the first word that is not 0 is the first bit of the row that is set
  pub set_first : k < w → 0 < word mid (r * w) k → word mid (r * w) k < 2 ^ 64 → IsFirstSet (row_at view r) (k * 64 + trailing_zeros w64 (word mid (r * w) k))
  set_first below some fits =
      let x : ℕ = word mid (r * w) k in
      let t : ℕ = trailing_zeros w64 x in
      let low = bit_at-trailing_zeros w64 x some fits in
      let small : t < 64 = low.0 in
      let i : ℕ = k * 64 + t in
      let room : i < w * 64 = omega arith in
      let here : is_set (row_at view r) i ≡ true =
      sym (from_lent i room) ∙ ap₂ (λ a b. eqb (bit_at (word mid (r * w) a) b) 1) (div-mul-add k 64 t small) (mod-mul-add k 64 t small) ∙ eq-eqb (bit_at x t) 1 low.1 in
      record {
        within = elim (cases_lt i (length (row_at view r))) [
          | inl inside ↦ inside
          | inr past ↦ absurd (true≢false (sym here ∙ get_or_past (row_at view r) i false past))
        ];
        set = here;
        first = λ j earlier.
            let room_j : j < w * 64 = omega arith in
            let split : j / 64 * 64 + j % 64 ≡ j = div-add-mod' j 64 in
            let col : j % 64 < 64 = mod_below j 64 (omega arith) in
            elim (cases_lt (j / 64) k) [
              | inl early ↦ blank_before j room_j early
              | inr late ↦
                  let same : j / 64 ≡ k = omega arith in
                  let lower : j % 64 < t = omega arith in
                  sym (from_lent j room_j) ∙ ap (λ a. eqb (bit_at (word mid (r * w) a) (j % 64)) 1) same ∙ ap (λ b. eqb b 1) (low.2 (j % 64) lower)
            ];
      }

  -- where all bits of a row are false, all its words are 0
  pub blank_all : k ≤ w → (k < w → 0 < word mid (r * w) k) → word mid (r * w) k < 2 ^ 64 → IsBlank (row_at view r) → k ≡ w
  blank_all most found fits blank = elim (cases_lt k w) [
    | inl below ↦
        let first = set_first below (found below) fits in
        absurd (true≢false (sym first.set ∙ blank (k * 64 + trailing_zeros w64 (word mid (r * w) k))))
    | inr all ↦ omega arith
  ]

-- a digit that is 1 where a truth value is true stands for it
pub digit_on : (on : Bool) → eqb (cond on 1 0) 1 ≡ on
digit_on true = refl
digit_on false = refl

-- a bit that is written has its new value, and the others of its row stay
pub put_done : (view : List (List Bool)) (ws final : List ℕ) (w rows bits to i v : ℕ) (on : Bool) → view ≡ table_of ws w rows bits → IsLaidOut ws w rows bits
    → to * w + w ≤ length ws → final ≡ set ws (to * w + i / 64) v → to < length view → i < length (row_at view to) → bit_at v (i % 64) ≡ cond on 1 0
    → ((j : ℕ) → j < 64 → j ≢ i % 64 → bit_at v j ≡ bit_at (get_or ws (to * w + i / 64) 0) j)
    → IsDone view w rows bits to (set (row_at view to) i on) final
put_done view ws final w rows bits to i v on seen laid held kept within inside there others =
    let place : ℕ = to * w + i / 64 in
    let new : List ℕ = set ws place v in
    let wide : i < w * 64 = place_wide view ws w rows bits to i seen laid within inside in
    let small : i / 64 < w = div_below i 64 w (omega arith) wide in
    let room : place < length ws = omega (arith, small, held) in
    let row : List Bool = row_at view to in
    let written : IsWritten ws new (to * w) w (word new (to * w)) = record {
      size = length-set ws place v;
      inside = λ k below. refl;
      before = λ k below. get_or-set_other ws place k v 0 (λ e. (let no : ⊥ = omega arith in no));
      behind = λ k above. get_or-set_other ws place k v 0 (λ e. (let no : ⊥ = omega arith in no));
    } in
    written_done view ws ws new final w rows bits to seen laid refl kept within (word new (to * w)) (set row i on) written (length-set row i on ∙ row_long view ws w rows bits to seen within) (λ j below.
    let before = source view ws w rows bits to j seen laid within below in
    elim (cases_eq j i) [
      | inl same ↦
          ap (λ y. eqb (bit_at (word new (to * w) (y / 64)) (y % 64)) 1) same ∙ ap (λ y. eqb (bit_at y (i % 64)) 1) (get_or-set_same ws place v 0 room) ∙ ap (λ y. eqb y 1) there ∙ digit_on on
          ∙ sym (ap (λ y. is_set (set row i on) y) same ∙ get_or-set_same row i on false inside)
      | inr ne ↦
          let stays : is_set (set row i on) j ≡ is_set row j = get_or-set_other row i j on false ne in
          elim (cases_eq (j / 64) (i / 64)) [
            | inl block ↦
                let split_j : j / 64 * 64 + j % 64 ≡ j = div-add-mod' j 64 in
                let split_i : i / 64 * 64 + i % 64 ≡ i = div-add-mod' i 64 in
                let apart : j % 64 ≢ i % 64 = λ e. ne (sym split_j ∙ ap₂ (λ a b. a * 64 + b) block e ∙ split_i) in
                ap (λ y. eqb (bit_at (word new (to * w) y) (j % 64)) 1) block ∙ ap (λ y. eqb (bit_at y (j % 64)) 1) (get_or-set_same ws place v 0 room)
                ∙ ap (λ y. eqb y 1) (others (j % 64) (mod_below j 64 (omega arith)) apart)
                ∙ sym (ap (λ y. eqb (bit_at (word ws (to * w) y) (j % 64)) 1) block) ∙ before ∙ sym stays
            | inr other ↦
                ap (λ y. eqb (bit_at y (j % 64)) 1) (get_or-set_other ws place (to * w + j / 64) v 0 (λ e. other (omega arith))) ∙ before ∙ sym stays
          ]
    ])

-- a row behind the end of the words has no bit set
pub none_held : (view : List (List Bool)) (ws : List ℕ) (w rows bits r : ℕ) → view ≡ table_of ws w rows bits → IsLaidOut ws w rows bits → r < length view → length ws < r * w + w → IsBlank (row_at view r)
none_held view ws w rows bits r seen laid within past =
    let out : length ws ≤ r * w = elim (laid.whole r) [ inl before ↦ absurd (omega (arith, before, past)) | inr behind ↦ behind ] in
    no_set view ws ws w rows bits r w seen laid refl within (λ j below. get_or_past ws (r * w + j) 0 (omega (arith, out))) refl

-- a row with no bit set stays where it is cleared
pub cleared_same : (view : List (List Bool)) (r : ℕ) → IsBlank (row_at view r) → view ≡ set view r (replicate (length (row_at view r)) false)
cleared_same view r blank =
    let row : List Bool = row_at view r in
    let same : replicate (length row) false ≡ row = same_lists (replicate (length row) false) row (length-replicate (length row) false) (λ i d below.
    let inside : i < length row = omega (arith, length-replicate (length row) false) in
    get_or-replicate (length row) i false d inside ∙ sym (get_or_default row i d false inside ∙ blank i)) in
    sym (ap (λ x. set view r x) same ∙ set-get_or view r [])

-- words that are all 0 make rows with no bit set
pub made_table : (ws : List ℕ) (w rows bits : ℕ) → ((k : ℕ) → get_or ws k 0 ≡ 0) → table_of ws w rows bits ≡ replicate rows (replicate bits false)
made_table ws w rows bits zeros =
    same_lists (table_of ws w rows bits) (replicate rows (replicate bits false)) (length-table_of ws w rows bits ∙ sym (length-replicate rows (replicate bits false))) (λ r d below.
    let at_r : r < rows = omega (arith, length-table_of ws w rows bits) in
    get_or-map-range_with_len (row_of ws w bits) 0 rows r r d at_r (omega arith)
    ∙ same_lists (row_of ws w bits r) (replicate bits false) (length-row_of ws w bits r ∙ sym (length-replicate bits false)) (λ i e inside.
    let at_i : i < bits = omega (arith, length-row_of ws w bits r) in
    get_or-map-range_with_len (bit_of ws w r) 0 bits i i e at_i (omega arith)
    ∙ ap (λ x. eqb (bit_at x (i % 64)) 1) (zeros (r * w + i / 64)) ∙ ap (λ x. eqb x 1) (bit_at-zero (i % 64))
    ∙ sym (get_or-replicate bits i false e at_i))
    ∙ sym (get_or-replicate rows r (replicate bits false) d at_r))
