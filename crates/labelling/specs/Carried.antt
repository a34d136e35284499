-- Bits carried from row to row.
use Rattle.std.specs.Prelude.{◌≡◌, ◌≢◌, ℕ, ◌<◌, ◌≤◌, ◌&&◌, ◌||◌, Bool, true, false, not, if◌then◌else◌, List, count_by, sum_by}
use Rattle.bit_rows.specs.Tables.{row_at, KeepsShape}
use Rattle.labelling.specs.Layout.{is_on}

-- how many bits of a table are off
abbrev pub off_count : List (List Bool) → ℕ
off_count table = sum_by (λ row. count_by (λ b. not b) row) table

-- whether bit k passes from a row through a mask; if `back`, the mask names the bits that do not pass
abbrev pub passes : List (List Bool) → ℕ → ℕ → Bool → ℕ → Bool
passes table from mask back k =
    is_on table from k && (if back then not (is_on table mask k) else is_on table mask k)

-- row `to` gained the bits that pass from row `from`; `changed` says whether any of them are new
pub record IsPassed (old new : List (List Bool)) (from to mask : ℕ) (back changed : Bool) : Type 0 where
  pub shape : KeepsShape old new
  pub others : (r : ℕ) → r ≢ to → row_at new r ≡ row_at old r
  pub here : (k : ℕ) → is_on new to k ≡ (is_on old to k || passes old from mask back k)
  pub fewer : off_count new ≤ off_count old
  pub still : changed ≡ false → new ≡ old
  pub falls : changed ≡ true → off_count new < off_count old
