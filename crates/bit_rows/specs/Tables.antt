-- Rows of truth values, and how they lie in words of 64 bits.
use Rattle.std.specs.Prelude.{ℕ, ◌≡◌, ◌+◌, ◌*◌, ◌/◌, ◌%◌, ◌^◌, ◌<◌, ◌≤◌, ◌==◌, Bool, true, false, not, ◌&&◌, ◌||◌, ◌⊎◌, List, [], length, map, slice_index, slice_index_or}
use Rattle.std.specs.Int.{bit_at}
use Rattle.std.specs.List.{range_with_len}
use Rattle.std.specs.Simd.Lanes.{zip2}

-- the row at an index; past the last row it is empty
abbrev pub row_at : List (List Bool) → ℕ → List Bool
row_at rows r = slice_index_or rows r []

-- the truth value at a place of a row; past its end it is false
abbrev pub is_set : List Bool → ℕ → Bool
is_set row i = slice_index_or row i false

-- there are this many rows, each with this many truth values
pub record HasShape (table : List (List Bool)) (rows bits : ℕ) : Type 0 where
  pub count : length table ≡ rows
  pub long : (r : ℕ) → r < rows → length (row_at table r) ≡ bits

-- as many rows as before, and as many truth values in each
abbrev pub KeepsShape : List (List Bool) → List (List Bool) → Type 0
KeepsShape old new = (rows bits : ℕ) → HasShape old rows bits → HasShape new rows bits

-- each truth value of a row is false
abbrev pub IsBlank : List Bool → Type 0
IsBlank row = (i : ℕ) → is_set row i ≡ false

-- this truth value of a row is true, and those before it are false
pub record IsFirstSet (row : List Bool) (i : ℕ) : Type 0 where
  pub within : i < length row
  pub set : is_set row i ≡ true
  pub first : (k : ℕ) → k < i → is_set row k ≡ false

-- this truth value of a row is true, at the place `from` or after it, and those between are false
pub record IsNextSet (row : List Bool) (from i : ℕ) : Type 0 where
  pub behind : from ≤ i
  pub within : i < length row
  pub set : is_set row i ≡ true
  pub first : (k : ℕ) → from ≤ k → k < i → is_set row k ≡ false

-- place by place: true in one of two rows or in both
abbrev pub either : List Bool → List Bool → List Bool
either = zip2 (λ x y. x || y)

-- place by place: true in both rows
abbrev pub both : List Bool → List Bool → List Bool
both = zip2 (λ x y. x && y)

-- place by place: true in the first row and not in the second
abbrev pub without : List Bool → List Bool → List Bool
without = zip2 (λ x y. x && not y)

-- the bit for place i of row r, if each row takes this many words
abbrev pub bit_of : List ℕ → ℕ → ℕ → ℕ → Bool
bit_of words width r i = bit_at (slice_index words (r * width + i / 64)) (i % 64) == 1

-- the first truth values of row r, this many
abbrev pub row_of : List ℕ → ℕ → ℕ → ℕ → List Bool
row_of words width bits r = map (bit_of words width r) (range_with_len 0 bits)

-- the rows that are stored in the words
abbrev pub table_of : List ℕ → ℕ → ℕ → ℕ → List (List Bool)
table_of words width rows bits = map (row_of words width bits) (range_with_len 0 rows)

-- each row has room for its bits, no bit after them is set, and the words end before a row or behind it
pub record IsLaidOut (words : List ℕ) (width rows bits : ℕ) : Type 0 where
  pub whole : (r : ℕ) → (r * width + width ≤ length words) ⊎ (length words ≤ r * width)
  pub room : bits ≤ width * 64
  pub limit : bits < 2 ^ 64
  pub blank : (r i : ℕ) → r < rows → bits ≤ i → i < width * 64 → bit_of words width r i ≡ false
