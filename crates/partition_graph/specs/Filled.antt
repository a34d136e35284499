-- Which words of rows of bits may have bits that are on.
use Rattle.std.specs.Prelude.{ℕ, ◌≡◌, ◌+◌, ◌*◌, ◌<◌, Bool, false, List}
use Rattle.limits.specs.declared.TheConstants.{MAX_PARTITIONS}
use Rattle.bit_rows.specs.Tables.{row_at, is_set, HasShape, KeepsShape}
use Rattle.partition_graph.specs.Marks.{HasIdRows}
use Rattle.partition_graph.specs.declared.id_rows.TheConstants.{WORD_BITS, ID_WORDS}

-- where a word is not marked as filled, its bits are off
pub record IsFilled (rows filled : List (List Bool)) : Type 0 where
  pub rows_shape : HasIdRows rows
  pub filled_shape : HasShape filled MAX_PARTITIONS ID_WORDS
  pub blank : (r w k : ℕ) → r < MAX_PARTITIONS → w < ID_WORDS → k < WORD_BITS
      → is_set (row_at filled r) w ≡ false → is_set (row_at rows r) (w * WORD_BITS + k) ≡ false

-- the rows are the old ones, except that bit i of row r is this one
pub record IsTurned (r i : ℕ) (bit : Bool) (old new : List (List Bool)) : Type 0 where
  pub shape : KeepsShape old new
  pub here : is_set (row_at new r) i ≡ bit
  pub others : (s j : ℕ) → (s ≡ r → j ≡ i → ⊥) → is_set (row_at new s) j ≡ is_set (row_at old s) j
