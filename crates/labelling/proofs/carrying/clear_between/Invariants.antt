use Rattle.std.proofs.Common.{◌≡◌, ◌≤◌, ◌<◌, ℕ, false, length}
use Rattle.bit_rows.specs.Tables.{row_at, KeepsShape}
use Rattle.labelling.specs.Layout.{is_on}
use Rattle.labelling.proofs.carrying.clear_between.Given as goal

abbrev pub invariant-loop-row : goal.invariant-loop-row
invariant-loop-row l =
    record {
      count : length l.rows ≡ length l.fn.rows;
      shape : KeepsShape l.fn.rows l.rows;
      from : l.first ≤ l.row;
      blank : (r k : ℕ) → l.first ≤ r → r < l.row → is_on l.rows r k ≡ false;
      before : (r : ℕ) → r < l.first → row_at l.rows r ≡ row_at l.fn.rows r;
      behind : (r : ℕ) → l.row ≤ r → row_at l.rows r ≡ row_at l.fn.rows r;
    }
