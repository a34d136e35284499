-- The next bit of a row that is on, by the words of the row.
use Rattle.std.proofs.Common.{◌≡◌, ◌≢◌, ℕ, ◌+◌, ◌*◌, ◌/◌, ◌%◌, ◌^◌, ◌<◌, ◌≤◌, Bool, false, eqb, List, length, w64, not, ne_eqb, sym, ap, ◌∙◌, arith, inl, inr}
use Rattle.std.proofs.lemmas.List.{get_or_past}
use Rattle.std.proofs.lemmas.Nat.{div-add-mod', mod_below}
use Rattle.std.proofs.lemmas.Bool.{cases_eq, cases_lt, true≢false}
use Rattle.std.specs.Int.{trailing_zeros}
use Rattle.limits.specs.declared.TheConstants.{MAX_PARTITIONS}
use Rattle.bit_rows.specs.Tables.{row_at, is_set, IsNextSet}
use Rattle.partition_graph.specs.Filled.{IsFilled}
use Rattle.partition_graph.specs.NeighbourWords.{IsWordOf}
use Rattle.partition_graph.proofs.NeighbourWords.{next_in_word}
use Rattle.partition_graph.specs.Marks.{HasIdRows}

-- the next bit that is on, by the word of a place
pub next_in : (row : List Bool) (from x : ℕ) → IsWordOf (is_set row) (from / 64) x → x < 2 ^ 64 → x / 2 ^ (from % 64) ≢ 0 → IsNextSet row from (from + trailing_zeros w64 (x / 2 ^ (from % 64)))
next_in row from x is fits some =
    let next = next_in_word (is_set row) from x is fits some in
    let i : ℕ = from + trailing_zeros w64 (x / 2 ^ (from % 64)) in
    record {
      behind = next.reached;
      within = elim (cases_lt i (length row)) [
        | inl inside ↦ inside
        | inr past ↦ absurd (true≢false (sym next.there ∙ get_or_past row i false past))
      ];
      set = next.there;
      first = next.first;
    }

-- the place of a bit by its word
pub by_word : (row : List Bool) (from to : ℕ) → ((w k : ℕ) → k < 64 → from ≤ w → w < to → is_set row (w * 64 + k) ≡ false) → (i : ℕ) → from * 64 ≤ i → i < to * 64 → is_set row i ≡ false
by_word row from to none i after before =
    let split : i / 64 * 64 + i % 64 ≡ i = div-add-mod' i 64 in
    let col : i % 64 < 64 = mod_below i 64 (omega arith) in
    sym (ap (is_set row) split) ∙ none (i / 64) (i % 64) col (omega (arith, split, col, after)) (omega (arith, split, col, before))

-- a bit is the next one from an earlier place too, where none is on between
pub next_later : (row : List Bool) (from to i : ℕ) → from ≤ to → ((k : ℕ) → from ≤ k → k < to → is_set row k ≡ false) → IsNextSet row to i → IsNextSet row from i
next_later row from to i low none next =
    record {
      behind = omega (arith, low, next.behind);
      within = next.within;
      set = next.set;
      first = λ k after before. elim (cases_lt k to) [
        | inl early ↦ none k after early
        | inr late ↦ next.first k late before
      ];
    }

-- none is on in the words that are not marked as filled
pub none_marked : (rows filled : List (List Bool)) (r from to : ℕ) → IsFilled rows filled → r < MAX_PARTITIONS → to ≤ 16 → ((w : ℕ) → from ≤ w → w < to → is_set (row_at filled r) w ≡ false)
    → (i : ℕ) → from * 64 ≤ i → i < to * 64 → is_set (row_at rows r) i ≡ false
none_marked rows filled r from to inv low high none =
    by_word (row_at rows r) from to (λ w k bit after before. inv.blank r w k low (omega (arith, before, high)) bit (none w after before))

-- none is on from a place on, where none is on before another place and none from there to the end of the row
pub none_left : (rows : List (List Bool)) (r from to : ℕ) → HasIdRows rows → r < MAX_PARTITIONS → ((i : ℕ) → from ≤ i → i < to → is_set (row_at rows r) i ≡ false) → ((i : ℕ) → to ≤ i → i < MAX_PARTITIONS → is_set (row_at rows r) i ≡ false)
    → (i : ℕ) → from ≤ i → is_set (row_at rows r) i ≡ false
none_left rows r from to shape low before rest i after =
    elim (cases_lt i MAX_PARTITIONS) [
      | inl inside ↦ elim (cases_lt i to) [
        | inl early ↦ before i after early
        | inr late ↦ rest i late inside
      ]
      | inr past ↦ (let long : length (row_at rows r) ≡ MAX_PARTITIONS = shape.long r low in get_or_past (row_at rows r) i false (omega (arith, past, long)))
    ]

-- a number that is not other than 0 is 0
pub no-other : (x : ℕ) → not (eqb x 0) ≡ false → x ≡ 0
no-other x e =
    elim (cases_eq x 0) [
      | inl zero ↦ zero
      | inr other ↦ absurd (true≢false (sym (ap not (ne_eqb x 0 other)) ∙ e))
    ]
