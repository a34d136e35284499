-- From words to the rows that lie in them.
use Rattle.std.proofs.Common.{◌≡◌, ◌≢◌, ℕ, ◌+◌, ◌*◌, ◌/◌, ◌%◌, ◌<◌, ◌≤◌, Bool, false, eqb, List, [], length, get_or, set, sym, ap, ◌∙◌, subst, arith, ◌⊎◌, inl, inr}
use Rattle.std.proofs.lemmas.List.{length-set, get_or-set_same, get_or-set_other, same_lists, get_or_default}
use Rattle.std.proofs.lemmas.List.FromFn.{length-map-range_with_len, get_or-map-range_with_len}
use Rattle.std.proofs.lemmas.Nat.{div_below, mul-le, row_fits}
use Rattle.std.proofs.lemmas.Bool.{cases_eq, cases_lt, cases_order}
use Rattle.std.specs.Int.{bit_at}
use Rattle.bit_rows.specs.Tables.{row_at, is_set, bit_of, row_of, table_of, IsLaidOut}
use Rattle.bit_rows.specs.Written.{IsApart, IsReached, IsWritten}

-- there are as many rows as asked for
pub length-table_of : (ws : List ℕ) (w rows bits : ℕ) → length (table_of ws w rows bits) ≡ rows
length-table_of ws w rows bits = length-map-range_with_len (row_of ws w bits) 0 rows

-- a row has as many bits as asked for
pub length-row_of : (ws : List ℕ) (w bits r : ℕ) → length (row_of ws w bits r) ≡ bits
length-row_of ws w bits r = length-map-range_with_len (bit_of ws w r) 0 bits

-- the row at an index, read from the words
pub row_at-table_of : (ws : List ℕ) (w rows bits r : ℕ) → r < rows → row_at (table_of ws w rows bits) r ≡ row_of ws w bits r
row_at-table_of ws w rows bits r h = get_or-map-range_with_len (row_of ws w bits) 0 rows r r [] h (omega arith)

-- a bit of a row, read from the words
pub is_set-row_of : (ws : List ℕ) (w bits r i : ℕ) → i < bits → is_set (row_of ws w bits r) i ≡ bit_of ws w r i
is_set-row_of ws w bits r i h = get_or-map-range_with_len (bit_of ws w r) 0 bits i i false h (omega arith)

-- a bit of a row of the table, read from the words
pub is_set-table_of : (ws : List ℕ) (w rows bits r i : ℕ) → r < rows → i < bits → is_set (row_at (table_of ws w rows bits) r) i ≡ bit_of ws w r i
is_set-table_of ws w rows bits r i hr hi = ap (λ row. is_set row i) (row_at-table_of ws w rows bits r hr) ∙ is_set-row_of ws w bits r i hi

-- a row is given by its truth values
pub same_row : (ws : List ℕ) (w bits r : ℕ) (row : List Bool) → length row ≡ bits → ((i : ℕ) → i < bits → bit_of ws w r i ≡ is_set row i) → row_of ws w bits r ≡ row
same_row ws w bits r row long h = same_lists (row_of ws w bits r) row (length-row_of ws w bits r ∙ sym long) (λ i d below.
    let within : i < bits = omega (arith, length-row_of ws w bits r) in
    get_or-map-range_with_len (bit_of ws w r) 0 bits i i d within (omega arith) ∙ h i within ∙ get_or_default row i false d (omega arith))

-- one row is another, and the others stay
pub table_set : (old new : List ℕ) (w rows bits to : ℕ) (row : List Bool) → to < rows → length row ≡ bits
    → ((r i : ℕ) → r < rows → r ≢ to → i < bits → bit_of new w r i ≡ bit_of old w r i)
    → ((i : ℕ) → i < bits → bit_of new w to i ≡ is_set row i)
    → table_of new w rows bits ≡ set (table_of old w rows bits) to row
table_set old new w rows bits to row within long others here =
    let size_old = length-table_of old w rows bits in
    let size_new = length-table_of new w rows bits in
    same_lists (table_of new w rows bits) (set (table_of old w rows bits) to row) (size_new ∙ sym size_old ∙ sym (length-set (table_of old w rows bits) to row)) (λ r d below.
    let at_r : r < rows = omega (arith, size_new) in
    let new_row = get_or-map-range_with_len (row_of new w bits) 0 rows r r d at_r (omega arith) in
    elim (cases_eq r to) [
      | inl same ↦
          new_row ∙ ap (row_of new w bits) same ∙ same_row new w bits to row long here
          ∙ sym (ap (λ j. get_or (set (table_of old w rows bits) to row) j d) same ∙ get_or-set_same (table_of old w rows bits) to row d (omega (arith, size_old)))
      | inr apart ↦
          let kept = same_row new w bits r (row_of old w bits r) (length-row_of old w bits r) (λ i hi. others r i at_r apart hi ∙ sym (is_set-row_of old w bits r i hi)) in
          new_row ∙ kept ∙ sym (get_or-set_other (table_of old w rows bits) to r row d apart ∙ get_or-map-range_with_len (row_of old w bits) 0 rows r r d at_r (omega arith))
    ])

-- words with the same bits make the same table
pub same_table : (old new : List ℕ) (w rows bits : ℕ) → ((r i : ℕ) → r < rows → i < bits → bit_of new w r i ≡ bit_of old w r i) → table_of new w rows bits ≡ table_of old w rows bits
same_table old new w rows bits h =
    same_lists (table_of new w rows bits) (table_of old w rows bits) (length-table_of new w rows bits ∙ sym (length-table_of old w rows bits)) (λ r d below.
    let at_r : r < rows = omega (arith, length-table_of new w rows bits) in
    get_or-map-range_with_len (row_of new w bits) 0 rows r r d at_r (omega arith)
    ∙ same_row new w bits r (row_of old w bits r) (length-row_of old w bits r) (λ i hi. h r i at_r hi ∙ sym (is_set-row_of old w bits r i hi))
    ∙ sym (get_or-map-range_with_len (row_of old w bits) 0 rows r r d at_r (omega arith)))

-- two rows do not overlap
pub rows_apart : (a b w : ℕ) → a ≢ b → IsApart (a * w) (b * w) w
rows_apart a b w ne = elim (cases_order a b) [
  | inl same ↦ absurd (ne same)
  | inr order ↦ elim order [
    | inl less ↦ inl (row_fits a w b w less (omega arith))
    | inr more ↦ inr (row_fits b w a w more (omega arith))
  ]
]

-- the bits of the row that is written are those of the given words
pub this_row : (old new : List ℕ) (w to i : ℕ) (given : ℕ → ℕ) → IsWritten old new (to * w) w given → i < w * 64 → bit_of new w to i ≡ eqb (bit_at (given (i / 64)) (i % 64)) 1
this_row old new w to i given h room =
    let small : i / 64 < w = div_below i 64 w (omega arith) room in
    ap (λ x. eqb (bit_at x (i % 64)) 1) (h.inside (i / 64) small)

-- the bits of the other rows stay
pub other_row : (old new : List ℕ) (w to r i : ℕ) (given : ℕ → ℕ) → IsWritten old new (to * w) w given → r ≢ to → i < w * 64 → bit_of new w r i ≡ bit_of old w r i
other_row old new w to r i given h ne room =
    let small : i / 64 < w = div_below i 64 w (omega arith) room in
    ap (λ x. eqb (bit_at x (i % 64)) 1) (elim (rows_apart r to w ne) [
      | inl below ↦ h.before (r * w + i / 64) (omega arith)
      | inr above ↦ h.behind (r * w + i / 64) (omega arith)
    ])

-- the words are still laid out as rows, where the given words have no bit behind those of a row
pub written_layout : (old new : List ℕ) (w rows bits to : ℕ) (given : ℕ → ℕ) → IsLaidOut old w rows bits → IsWritten old new (to * w) w given
    → ((i : ℕ) → bits ≤ i → i < w * 64 → eqb (bit_at (given (i / 64)) (i % 64)) 1 ≡ false) → IsLaidOut new w rows bits
written_layout old new w rows bits to given laid h blank = record {
  whole = λ r. subst (λ n. (r * w + w ≤ n) ⊎ (n ≤ r * w)) (sym h.size) (laid.whole r);
  room = laid.room;
  limit = laid.limit;
  blank = λ r i hr from below. elim (cases_eq r to) [
    | inl same ↦ ap (λ s. bit_of new w s i) same ∙ this_row old new w to i given h below ∙ blank i from below
    | inr ne ↦ other_row old new w to r i given h ne below ∙ laid.blank r i hr from below
  ];
}

-- the table has the new row in the place of the old one
pub written_table : (old new : List ℕ) (w rows bits to : ℕ) (given : ℕ → ℕ) (row : List Bool) → IsLaidOut old w rows bits → to < rows → IsWritten old new (to * w) w given
    → length row ≡ bits → ((i : ℕ) → i < bits → eqb (bit_at (given (i / 64)) (i % 64)) 1 ≡ is_set row i)
    → table_of new w rows bits ≡ set (table_of old w rows bits) to row
written_table old new w rows bits to given row laid within h long here =
    table_set old new w rows bits to row within long
    (λ r i hr ne hi. other_row old new w to r i given h ne (omega (arith, laid.room)))
    (λ i hi. this_row old new w to i given h (omega (arith, laid.room)) ∙ here i hi)

-- the words hold the table, and all words of the rows up to r
pub record HoldsTo (view : List (List Bool)) (ws : List ℕ) (w rows bits r : ℕ) : Type 0 where
  pub seen : view ≡ table_of ws w rows bits
  pub laid : IsLaidOut ws w rows bits
  pub held : (q : ℕ) → q ≤ r → q * w + w ≤ length ws

-- words that reach to the end of row r hold the same table as before
pub holds_to : (view : List (List Bool)) (old new : List ℕ) (w rows bits r : ℕ) → view ≡ table_of old w rows bits → IsLaidOut old w rows bits → IsReached old new (r * w + w) → HoldsTo view new w rows bits r
holds_to view old new w rows bits r seen laid h =
    let size = h.size in
    let same : (q i : ℕ) → bit_of new w q i ≡ bit_of old w q i = λ q i. ap (λ x. eqb (bit_at x (i % 64)) 1) (h.same (q * w + i / 64)) in
    let held : (q : ℕ) → q ≤ r → q * w + w ≤ length new = λ q low. omega (arith, mul-le q w r w low (omega arith), size) in
    record {
      seen = seen ∙ sym (same_table old new w rows bits (λ q i hq hi. same q i));
      laid = record {
        whole = λ q. elim (cases_lt r q) [
          | inl behind ↦ elim (laid.whole q) [
            | inl before ↦ inl (omega (arith, before, size))
            | inr past ↦ inr (omega (arith, row_fits r w q w behind (omega arith), past, size))
          ]
          | inr low ↦ inl (held q low)
        ];
        room = laid.room;
        limit = laid.limit;
        blank = λ q i hq from below. same q i ∙ laid.blank q i hq from below;
      };
      held = held;
    }
